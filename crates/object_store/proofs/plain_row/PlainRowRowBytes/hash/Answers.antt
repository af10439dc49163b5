use Rattle.std.proofs.Common.{◌≡◌, ◌∙◌, sym, ap, rules}
use Rattle.object_store.specs.Bytes.{trimmed_bytes}
use Rattle.object_store.proofs.ByteLemmas.{trimmed_bytes-append_zeros}
use Rattle.object_store.proofs.plain_row.PlainRowRowBytes.hash.Goals as goal

pub returns : goal.returns
returns c =
    let kept = c.self.inside.kept.items in
    let whole : trimmed_bytes kept ≡ trimmed_bytes c.args.self.now.bytes = sym (trimmed_bytes-append_zeros kept _) ∙ ap (λ content. trimmed_bytes content.bytes) c.self.view_is in
    rw (← whole) (search rules)
