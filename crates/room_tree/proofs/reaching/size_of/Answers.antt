use Rattle.room_tree.proofs.Common.{◌<◌, ◌^◌, sym, ap, ◌∙◌, arith, size_of}
use Rattle.room_tree.proofs.Checking.{few_bytes}
use Rattle.room_tree.proofs.reaching.size_of.Goals as goal

pub returns-in_ok-count-in-File-clause-value : goal.returns-in_ok-count-in-File-clause-value
returns-in_ok-count-in-File-clause-value g c = λ available laid_out t e room stand path found.
    let count = c.in_ok-count-in-File.ensures.value available laid_out t e room stand path found in
    let few = few_bytes stand found in
    let fits : c.in_ok-count-in-File.count < 2 ^ 32 = omega (arith, count, few) in
    c.as_size.ensures fits ∙ count ∙ ap (size_of room path) (sym c.in-File.is)

pub returns-in_ok-count-in-Folder-clause-value : goal.returns-in_ok-count-in-Folder-clause-value
returns-in_ok-count-in-Folder-clause-value g c = λ available laid_out t e room stand path found.
    let count = c.in_ok-count-in-Folder.ensures.value available laid_out t e room stand path found in
    let few = stand.lawful.few path in
    let fits : c.in_ok-count-in-Folder.count < 2 ^ 32 = omega (arith, count, few) in
    c.as_size-in-Folder.ensures fits ∙ count ∙ ap (size_of room path) (sym c.in-Folder.is)
