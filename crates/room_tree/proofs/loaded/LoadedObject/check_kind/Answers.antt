use Rattle.room_tree.proofs.Common.{sym, ap, ◌∙◌, Some, first_refusal, check_file, check_folder, kind_checks}
use Rattle.room_tree.proofs.Checking.{first_alone}
use Rattle.room_tree.proofs.loaded.LoadedObject.check_kind.Goals as goal

pub returns-in-File : goal.returns-in-File
returns-in-File c = λ t room at found.
    c.check_file.ensures t room at found ∙ sym (first_alone (check_file room at))
    ∙ ap (λ only. first_refusal (kind_checks room at only)) (ap Some (sym c.in-File.is) ∙ sym c.in-Some.is)

pub returns-in-Folder : goal.returns-in-Folder
returns-in-Folder c = λ t room at found.
    c.check_folder.ensures t room at found ∙ sym (first_alone (check_folder room at))
    ∙ ap (λ only. first_refusal (kind_checks room at only)) (ap Some (sym c.in-Folder.is) ∙ sym c.in-Some.is)
