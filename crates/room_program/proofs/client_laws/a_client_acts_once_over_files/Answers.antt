use Rattle.room_program.proofs.ClientFiles.{client_over_files, told_over_files}
use Rattle.room_program.proofs.client_laws.a_client_acts_once_over_files.Goals as goal

pub returns-clause-did : goal.returns-clause-did
returns-clause-did c = client_over_files

pub returns-clause-told : goal.returns-clause-told
returns-clause-told c start lane past runs found left sent later asked command client held holds steps less keeps few
    ask heard =
    told_over_files start lane past sent later asked command client holds keeps few ask heard runs found left held steps
    less
