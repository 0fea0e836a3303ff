-- The numbers in the words by which the program is called.
use Rattle.std.specs.Prelude.{⊤, ◌≤◌}
use Rattle.host_program.specs.declared.words.HostWords.{HostWords}
use Rattle.host_program.specs.declared.words.ProgramWords.{ProgramWords}
use Rattle.host_program.specs.declared.words.ProgramWords.TheVariants.{Host, Report}

-- 1 to 1,000 workers, and at most 10 ^ 15 sessions for each
abbrev pub IsWithinLimits : HostWords → Type 0
IsWithinLimits words = (1 ≤ words.workers) × (words.workers ≤ 1000) × (words.sessions ≤ 1000000000000000)

abbrev pub AreWithinLimits : ProgramWords → Type 0
AreWithinLimits (Host words) = IsWithinLimits words
AreWithinLimits Report = ⊤
