use Rattle.std.proofs.Common.{◌∷◌}
use Rattle.vdi_directory.specs.Chains.{chain_of}
use Rattle.vdi_directory.specs.Decisions.{log_effects}
use Rattle.vdi_ops.specs.Tables.{table_in}
use Rattle.overlap_law.proofs.KnownTables.{with_chain_known, table_known, entry_known, successor_known}
use Rattle.overlap_law.proofs.works.tables_are_of_one_spec.Goals as goal

pub returns-clause-chain : goal.returns-clause-chain
returns-clause-chain c = λ log vid header reservable there k d within.
    (with_chain_known log reservable vid header there k d within).made

pub returns-clause-table : goal.returns-clause-table
returns-clause-table c = λ log vid header bytes index reservable there names.
    let ids = vid ∷ chain_of (log_effects log) vid in
    (entry_known (log_effects log) header.spec (table_in ids header.spec bytes) index
    (table_known (log_effects log) header.spec ids bytes (with_chain_known log reservable vid header there)) names).made

pub returns-clause-snapshot : goal.returns-clause-snapshot
returns-clause-snapshot c = λ read by session name tag vid old header reservable granted working there.
    (successor_known read by session name tag vid old header reservable granted working there).made
