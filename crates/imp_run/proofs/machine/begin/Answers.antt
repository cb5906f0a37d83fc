use Rattle.imp_run.proofs.machine.begin.Goals as goal

pub returns-in_ok-stepped-in-Simple : goal.returns-in_ok-stepped-in-Simple
returns-in_ok-stepped-in-Simple c = record { is = rw c.in-Simple.is ((c.in_ok-stepped-in-Simple.ensures {u = tt}).is c.args.program.now) }

pub returns-in_ok-stepped-in-If : goal.returns-in_ok-stepped-in-If
returns-in_ok-stepped-in-If c = record { is = rw c.in-If.is ((c.in_ok-stepped-in-If.ensures {u = tt}).is c.args.program.now) }

pub returns-in_ok-stepped-in-While : goal.returns-in_ok-stepped-in-While
returns-in_ok-stepped-in-While c = record { is = rw c.in-While.is ((c.in_ok-stepped-in-While.ensures {u = tt}).is c.args.program.now) }

pub returns-in_ok-stepped-in-Break : goal.returns-in_ok-stepped-in-Break
returns-in_ok-stepped-in-Break c = record { is = rw c.in-Break.is ((c.in_ok-stepped-in-Break.ensures {u = tt}).is c.args.program.now) }
