use Rattle.demo_run.proofs.playing.Playing.stop.Goals as goal

pub returns-clause-plays : goal.returns-clause-plays
returns-clause-plays c = λ played is. c.in_ok-push-3.ensures.plays _ (c.in_ok-push-2.ensures.plays _ (c.in_ok-push.ensures.plays played is))
