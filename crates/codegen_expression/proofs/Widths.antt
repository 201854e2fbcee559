-- How many words a value takes is how many parts it has.
use Rattle.std.proofs.Common.{◌≡◌, ℕ, List, length, Some, refl, sym, ap, ◌∙◌}
use Rattle.std.proofs.lemmas.List.{length-map}
use Rattle.std.specs.Prelude.{get_or}
use Rattle.type_table.specs.Types.{ValueType, IntType, BoolType, StructType, ChannelType}
use Rattle.type_table.specs.Containment.{Structs, parts, variable_words, width, words_of}
use Rattle.type_table.specs.Views.{AreWidths}
use Rattle.type_table.proofs.Fields.{parts-count}
use Rattle.codegen_base.specs.declared.element.Element.{Element}
use Rattle.codegen_base.specs.Elements.{kinds_of, word_kind}

counted : (structs : Structs) (elements : List Element) (kind : ValueType) (w : ℕ) → width structs kind ≡ Some w → variable_words structs (Some kind) ≡ length (kinds_of structs elements kind)
counted structs elements kind w is = ap words_of is ∙ sym (length-map (parts structs kind) (word_kind elements) ∙ parts-count structs kind w is)

pub words_counted : (structs : Structs) (widths : List ℕ) (elements : List Element) → AreWidths structs widths → (kind : ValueType) → variable_words structs (Some kind) ≡ length (kinds_of structs elements kind)
words_counted structs widths elements are IntType = refl
words_counted structs widths elements are BoolType = refl
words_counted structs widths elements are (StructType s) = counted structs elements (StructType s) (get_or widths s 0) (are s)
words_counted structs widths elements are (ChannelType d e) = refl
