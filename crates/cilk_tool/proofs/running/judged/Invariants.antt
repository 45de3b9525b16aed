use Rattle.cilk_tool.proofs.running.judged.Given as goal

-- the moment of the call
abbrev pub ghosts-checked : goal.ghosts-checked
ghosts-checked g a = record { failed = g.F.Files.failed a.files.now }
