use Rattle.room_tree.proofs.Common.{◌≡◌, refl, arith, File, Folder}
use Rattle.room_tree.proofs.renewing.renew.Goals as goal

pub returns-clause-value : goal.returns-clause-value
returns-clause-value g c = λ available laid_out room stand path at.
    c.renew_within.ensures.value available laid_out _ refl room stand path at
    (λ file. absurd (let f : Folder ≡ File = file in cc)) (omega arith)
