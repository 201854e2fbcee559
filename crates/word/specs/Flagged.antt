use Rattle.std.specs.Prelude.{Bool}
use Rattle.word.specs.declared.write.Flagged.{Flagged}

-- the writer of std inside
abbrev pub inner_of : {W : Type 0} → Flagged W → W
inner_of f = f.inner

-- whether the flag is set
abbrev pub failed_of : {W : Type 0} → Flagged W → Bool
failed_of f = f.failed
