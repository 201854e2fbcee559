-- Conditions, and what is done if they are true and if they are false.
use Rattle.std.specs.Prelude.{List}
use Rattle.syntax.specs.Tree.{Expression, Statements, Otherwise, NoElse, ElseBlock, ElseIf}
use Rattle.type_table.specs.Scopes.{Globals, Yield}
use Rattle.codegen_base.specs.declared.element.Element.{Element}
use Rattle.codegen_base.specs.Generated.{Made, Site, ended, inside, made_all, made_branch, made_else, made_if, made_otherwise, nothing, past}

module _ (globals : Globals) (elements : List Element) (result : Yield) where
  abbrev pub made_within : Site → Statements → Made
  made_within site body = ended site.layout (made_all globals elements result (inside site) body)

  -- what follows `else`
  abbrev pub made_other : Site → Otherwise → Made
  made_other site NoElse = nothing site
  made_other site (ElseBlock body) = made_within site body
  made_other site (ElseIf branch) = made_branch globals elements result site branch

  abbrev pub made_one_way : Site → Expression → Statements → Made
  made_one_way site condition body = made_if globals elements result site.layout condition (made_within site body)

  abbrev pub made_two_ways : Site → Expression → Statements → Otherwise → Made
  made_two_ways site condition body otherwise =
      let so = made_within site body in made_else globals elements result site.layout condition so (made_other (past site so) otherwise)

  abbrev pub made_condition : Site → Expression → Statements → Otherwise → Made
  made_condition site condition body otherwise = made_otherwise globals elements result site condition (made_within site body) otherwise
