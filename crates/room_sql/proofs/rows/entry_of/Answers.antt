use Rattle.room_sql.proofs.Common.{ShowsEntry}
use Rattle.room_tables.proofs.EntryRows.{no_type, no_text}
use Rattle.room_sql.proofs.Frames.{handed_on}
use Rattle.room_sql.proofs.rows.entry_of.Goals as goal

pub returns-in_err-allow-clause-told : goal.returns-in_err-allow-clause-told
returns-in_err-allow-clause-told c =
    handed_on (λ _. ¬ ShowsEntry c.args.row.now) c.from_residual-in_err-allow.result c.in_err-allow.field-0.0
    c.from_residual-in_err-allow.ensures.1 (λ other. no_type c.args.row.now (c.in_err-allow.ensures.told other))

pub returns-in_err-text-clause-told : goal.returns-in_err-text-clause-told
returns-in_err-text-clause-told c =
    handed_on (λ _. ¬ ShowsEntry c.args.row.now) c.from_residual-in_err-text.result c.in_err-text.field-0.0
    c.from_residual-in_err-text.ensures.1 (λ other. no_text c.args.row.now (c.in_err-text.ensures.told other))
