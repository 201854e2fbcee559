-- Statements that are to be done first.
use Rattle.std.proofs.Common.{◌≡◌, List, [], ◌∷◌, ◌++◌, refl, ap}
use Rattle.syntax.specs.declared.node.StatementNode.{StatementNode}
use Rattle.syntax.specs.View.{statement_of, body_of}
use Rattle.meaning.specs.Tasks.{Task, Do, all_of}

-- the last one stands before what is done after all
pub last_first : (body : List StatementNode) (last : StatementNode) (rest : List Task) → all_of (body_of (body ++ last ∷ [])) ++ rest ≡ all_of (body_of body) ++ (Do (statement_of last) ∷ rest)
last_first [] last rest = refl
last_first (first ∷ body) last rest = ap (λ tasks. Do (statement_of first) ∷ tasks) (last_first body last rest)
