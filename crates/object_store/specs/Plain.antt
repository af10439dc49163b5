-- The plain store, as every store is seen.
use Rattle.object_store.specs.Store.{AllRows}
use Rattle.object_store.specs.PlainBytes.{KeptBytes, seen_bytes}
use Rattle.object_store.specs.Objects.{Objects, seen_objects}

abbrev pub seen_rows : Objects KeptBytes → AllRows
seen_rows es = seen_objects seen_bytes es
