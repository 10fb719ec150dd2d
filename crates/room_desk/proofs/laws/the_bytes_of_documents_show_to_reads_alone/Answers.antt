use Rattle.room_desk.proofs.OtherBytes.{bytes_show_to_reads}
use Rattle.room_desk.proofs.laws.the_bytes_of_documents_show_to_reads_alone.Goals as goal

pub returns : goal.returns
returns c = λ caller a b past other event alike like its.
    bytes_show_to_reads caller a b alike past other like event its
