use Rattle.room_program.proofs.Jobs.{over_tables, ran_init, ran_report, ran_replay, ran_serve}
use Rattle.room_program.proofs.running.run_job.Goals as goal

pub returns-in-Init : goal.returns-in-Init
returns-in-Init g c =
    let m = over_tables g.S.Store g.M.Machine.does g.M.Listener.accepts g.M.Listener.fails in
    ran_init m c.args.machine.now c.run_init.new.machine c.args.job.now
    c.in-Init.db c.in-Init.owner c.in-Init.group _ _ _
    (g.R.Read.remaining c.args.input.now) (g.W.Write.contents c.args.output.now)
    (g.E.Write.contents c.args.errors.now) (g.E.Write.contents c.run_init.new.errors) c.run_init.result c.in-Init.is
    c.as_str.ensures.value c.as_str-in-Init.ensures.value c.as_str-in-Init-2.ensures.value c.run_init.ensures

pub returns-in-Report : goal.returns-in-Report
returns-in-Report g c =
    let m = over_tables g.S.Store g.M.Machine.does g.M.Listener.accepts g.M.Listener.fails in
    ran_report m c.args.machine.now c.run_report.new.machine c.args.job.now
    c.in-Report.db c.in-Report.roster c.in-Report.kind _ _ (g.R.Read.remaining c.args.input.now)
    (g.W.Write.contents c.args.output.now) (g.W.Write.contents c.run_report.new.output)
    (g.E.Write.contents c.args.errors.now) (g.E.Write.contents c.run_report.new.errors) c.run_report.result
    c.in-Report.is c.as_str-in-Report.ensures.value c.as_str-in-Report-2.ensures.value c.run_report.ensures

pub returns-in-Replay : goal.returns-in-Replay
returns-in-Replay g c =
    let m = over_tables g.S.Store g.M.Machine.does g.M.Listener.accepts g.M.Listener.fails in
    ran_replay m c.args.machine.now c.run_replay.new.machine c.args.job.now
    c.in-Replay.roster c.in-Replay.owner c.in-Replay.group _ _ _
    (g.R.Read.remaining c.args.input.now) (g.R.Read.remaining c.run_replay.new.input)
    (g.W.Write.contents c.args.output.now) (g.W.Write.contents c.run_replay.new.output)
    (g.E.Write.contents c.args.errors.now) (g.E.Write.contents c.run_replay.new.errors) c.run_replay.result
    c.in-Replay.is c.as_str-in-Replay.ensures.value c.as_str-in-Replay-2.ensures.value
    c.as_str-in-Replay-3.ensures.value c.run_replay.ensures

pub returns-in-Serve : goal.returns-in-Serve
returns-in-Serve g c =
    let m = over_tables g.S.Store g.M.Machine.does g.M.Listener.accepts g.M.Listener.fails in
    ran_serve m c.args.machine.now c.run_serve.new.machine c.args.job.now
    c.in-Serve.db c.in-Serve.roster c.in-Serve.port c.in-Serve.count _ _
    (g.R.Read.remaining c.args.input.now) (g.W.Write.contents c.args.output.now)
    (g.E.Write.contents c.args.errors.now) (g.E.Write.contents c.run_serve.new.errors) c.run_serve.result
    c.in-Serve.is c.as_str-in-Serve.ensures.value c.as_str-in-Serve-2.ensures.value c.run_serve.ensures
