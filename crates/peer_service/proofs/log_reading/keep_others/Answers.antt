use Rattle.std.proofs.Common.{not, rules}
use Rattle.std.proofs.lemmas.Fn.{filter_same}
use Rattle.object_id.specs.Oid.{vid_of}
use Rattle.vdi_directory.specs.References.{has_vid}
use Rattle.peer_service.proofs.log_reading.keep_others.Goals as goal

pub returns-in-Some : goal.returns-in-Some
returns-in-Some c =
    let kept = filter_same _ (λ oid. not (has_vid (vid_of oid) c.args.vids.now)) _ (λ x b f' k. search rules) _ _ c.retain.ensures in
    search (rules, kept)
