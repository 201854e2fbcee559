-- Where paths of fields lead, in values and in the locals.
use Rattle.std.proofs.Common.{◌≡◌, ℕ, ◌+◌, ◌≤◌, List, [], ◌∷◌, ◌++◌, length, Option, Some, None, option_map, refl, sym, ap, ◌∙◌, subst, arith, append_assoc, length-append, inl, inr}
use Rattle.std.proofs.lemmas.List.{append-nil}
use Rattle.go_text.specs.declared.rule.Rule.TheVariants as rules
use Rattle.word.specs.declared.value.Word.{Word}
use Rattle.type_table.specs.Types.{ValueType}
use Rattle.type_table.specs.Containment.{Structs, Selected, following, field_of}
use Rattle.type_table.specs.Zeros.{zero_words}
use Rattle.typing_rules.specs.Violations.{IsBroken}
use Rattle.typing_rules.specs.Worths.{type_of_field}
use Rattle.typing_rules.specs.Operations.{PathHas, followed}
use Rattle.meaning.specs.Values.{slot, known, slot_after, slot_along}
use Rattle.codegen_base.proofs.Typing.{Free, broken}
use Rattle.codegen_base.proofs.Fields.{AllWide, Holds, field_held}

module _ (structs : Structs) where
  -- a value is a part of itself
  pub held_whole : (kind : ValueType) → Holds structs kind 0 kind
  held_whole kind = record { before = []; after = []; zeros = sym (append-nil (zero_words structs kind)); place = refl }

  -- a part of a part
  pub held_through : (whole middle kind : ValueType) (from more : ℕ) → Holds structs whole from middle → Holds structs middle more kind → Holds structs whole (from + more) kind
  held_through whole middle kind from more h i = record {
    before = h.before ++ i.before;
    after = i.after ++ h.after;
    zeros = h.zeros ∙ ap (λ (l : List Word). h.before ++ (l ++ h.after)) i.zeros ∙ ap (λ (l : List Word). h.before ++ l) (append_assoc i.before (zero_words structs kind ++ i.after) h.after ∙ ap (λ (l : List Word). i.before ++ l) (append_assoc (zero_words structs kind) i.after h.after))
        ∙ sym (append_assoc h.before i.before (zero_words structs kind ++ (i.after ++ h.after)));
    place = length-append h.before i.before ∙ ap (λ n. n + length i.before) h.place ∙ ap (λ n. from + n) i.place;
  }

  -- fields have types
  abbrev pub AllKnown : Type 0
  AllKnown = (kind : ValueType) (name : List ℕ) (at : Selected) → field_of structs kind name ≡ Some at → (t : ValueType) × (at.kind ≡ Some t)

  -- the part to which `path` leads in a value that begins at index `start` of the locals
  pub record Leads (kind : ValueType) (start : ℕ) (path : List (List ℕ)) : Type 0 where
    pub from : ℕ
    pub at : ValueType
    pub held : Holds structs kind from at
    pub followed_is : followed structs (Some (record { place = start; kind = Some kind })) path ≡ Some (record { place = start + from; kind = Some at })
    pub slot_is : (begin : ℕ) → slot_along structs (slot begin kind) path ≡ slot (begin + from) at

  pub leads : AllWide structs → AllKnown → (path : List (List ℕ)) (kind : ValueType) (start end : ℕ) → 1 ≤ end → Free (λ violation. PathHas structs (Some kind) path end violation) → Leads kind start path
  leads all fields-known [] kind start end le free =
      let z : start ≡ start + 0 = omega arith in
      record {
        from = 0;
        at = kind;
        held = held_whole kind;
        followed_is = ap (λ n. Some (record { place = n; kind = Some kind })) z;
        slot_is = λ begin. let e : begin ≡ begin + 0 = omega arith in ap (λ n. slot n kind) e;
      }
  leads all fields-known (name ∷ path) kind start end le free = go (field_of structs kind name) refl (λ violation h. free violation (inl h)) (λ violation h. free violation (inr h)) (λ k from f. leads all fields-known path k from end le f) where
    go : (o : Option Selected) → field_of structs kind name ≡ o → Free (λ violation. (field_of structs kind name ≡ None) × IsBroken rules.Assigned end violation) → Free (λ violation. PathHas structs (type_of_field (field_of structs kind name)) path end violation)
        → ((k : ValueType) (from : ℕ) → Free (λ violation. PathHas structs (Some k) path end violation) → Leads k from path) → Leads kind start (name ∷ path)
    go None is calm more on = let b = broken rules.Assigned end le in absurd (calm b.0 (is, b.1))
    go (Some f) is calm more on =
        let t = fields-known kind name f is in
        let has : type_of_field (field_of structs kind name) ≡ Some t.0 = ap type_of_field is ∙ t.1 in
        let rest = on t.0 (start + f.place) (λ violation h. more violation (subst (λ o. PathHas structs o path end violation) (sym has) h)) in
        let sum : start + f.place + rest.from ≡ start + (f.place + rest.from) = omega arith in
        record {
          from = f.place + rest.from;
          at = rest.at;
          held = held_through kind t.0 rest.at f.place rest.from (field_held structs all kind name f t.0 is t.1) rest.held;
          followed_is =
              ap (λ o. followed structs (option_map (following start) o) path) is
              ∙ ap (λ k. followed structs (Some (record { place = start + f.place; kind = k })) path) t.1
              ∙ rest.followed_is ∙ ap (λ n. Some (record { place = n; kind = Some rest.at })) sum;
          slot_is = λ begin.
              let e : begin + f.place + rest.from ≡ begin + (f.place + rest.from) = omega arith in
              ap (λ o. slot_along structs (slot_after begin o) path) is ∙ ap (λ k. slot_along structs (slot (begin + f.place) (known k)) path) t.1 ∙ rest.slot_is (begin + f.place) ∙ ap (λ n. slot n rest.at) e;
        }
