use Rattle.agent_commands.proofs.segments.run_segmented.Given as goal

-- the Parts as they are handed in
abbrev pub ghosts-run_over : goal.ghosts-run_over
ghosts-run_over g a = record { could_leave = g.P.Parts.meaning.images.may_leave a.parts; moment = g.P.Parts.meaning.images.moment a.parts; size = 16777216 }
