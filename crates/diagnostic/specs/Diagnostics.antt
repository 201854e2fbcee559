-- What a diagnostic begins with.
use Rattle.std.specs.Prelude.{◌≡◌, ℕ, ◌++◌, List, [], ◌∷◌, Option, Some, None, codes, decimal}
use Rattle.go_text.specs.declared.fault.Fault.{Fault}
use Rattle.go_text.specs.declared.place.Place.{Place}
use Rattle.go_text.specs.declared.place.Position.{Position}
use Rattle.diagnostic.specs.declared.advice.Diagnostic.{Diagnostic}
use Rattle.diagnostic_syntax.specs.Places.{place_of}

-- `FILE: `, or `FILE:LINE:COLUMN: `
abbrev pub heading_at : List ℕ → Option Position → List ℕ
heading_at path None = path ++ codes ": "
heading_at path (Some p) = path ++ (codes ":" ++ (decimal p.line ++ (codes ":" ++ (decimal p.column ++ codes ": "))))

-- its line and column, if there is a location and they are known
abbrev pub position_of : Option Place → Option Position
position_of None = None
position_of (Some place) = place.position

-- the heading, and then what is wrong
abbrev pub IsDiagnostic : List ℕ → Fault → List ℕ → Type 0
IsDiagnostic path told bytes = (said : List ℕ) × (bytes ≡ heading_at path (position_of (place_of told)) ++ said)

-- it has this fault, and its position
abbrev pub IsOf : Fault → Diagnostic → Type 0
IsOf fault one = (one.fault ≡ fault) × (one.position ≡ position_of (place_of fault))

-- the first one is of this fault
abbrev pub BeginsWith : Fault → List Diagnostic → Type 0
BeginsWith fault [] = ⊥
BeginsWith fault (first ∷ others) = IsOf fault first
