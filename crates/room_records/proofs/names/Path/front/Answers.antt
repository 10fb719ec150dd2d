use Rattle.room_records.proofs.Common.{subst, ap, sym, ◌∙◌, take, IsPath}
use Rattle.room_records.proofs.PathParts.{front_is_path}
use Rattle.room_records.proofs.names.Path.front.Goals as goal

pub invariant_of-result : goal.invariant_of-result
invariant_of-result c =
    subst IsPath (sym (c.in_ok-names.ensures ∙ ap (take c.min.result) c.names-all.ensures.value))
    (front_is_path c.min.result c.args.self.now c.names-all.ensures.lawful)
