-- The select tables of a plan: where a select finds its own, and what is said of each.
use Rattle.std.proofs.Common.{◌≡◌, ℕ, zero, suc, ◌+◌, Bool, true, false, cond, List, [], ◌∷◌, ◌++◌, length, drop, All, Some, sym, ap, ◌∙◌, subst, arith, slice_get, append_assoc, length-append}
use Rattle.std.specs.Bool.{OnTrue}
use Rattle.std.proofs.lemmas.List.Elements.{All-append}
use Rattle.bytecode.specs.Code.{SelectTable}
use Rattle.plan.specs.Plan.{Plan, Skip, Do, Seq, IfElse, IfThen, Cycle, Endless, Choose, Way, LastWay, Stop, Leave, Again, reaches_end, turns, jump_size, size, starts, tables, table_count}
use Rattle.plan.proofs.Lists.{length_if, first_left, following}

-- the selects have these numbers in order, from n on
abbrev pub Numbered : ℕ → Plan → Type 0
Numbered n Skip = Unit {0}
Numbered n (Do i rest) = Numbered n rest
Numbered n (Seq first rest) = Numbered n first × OnTrue (reaches_end first) (Numbered (n + table_count first) rest)
Numbered n (IfElse so other) = Numbered n so × Numbered (n + table_count so) other
Numbered n (IfThen so) = Numbered n so
Numbered n (Cycle test body post exit) =
    let b = n + table_count test in
    let p = b + table_count body in
    Numbered n test × Numbered b body × OnTrue (turns body) (Numbered p post) × Numbered (p + cond (turns body) (table_count post) 0) exit
Numbered n (Endless body post) = Numbered n body × OnTrue (turns body) (Numbered (n + table_count body) post)
Numbered n (Choose q make ways) = (q ≡ n) × Numbered (n + 1) ways
Numbered n (Way ks body others) = Numbered n body × Numbered (n + table_count body) others
Numbered n (LastWay ks body) = Numbered n body
Numbered n Stop = Unit {0}
Numbered n Leave = Unit {0}
Numbered n Again = Unit {0}

-- how many tables a plan has
pub tables_size : (p : Plan) (place : ℕ) → length (tables place p) ≡ table_count p
tables_size Skip place = omega arith
tables_size (Do i rest) place = tables_size rest (place + 1)
tables_size (Seq first rest) place =
    let xs = tables (place + size first) rest in
    omega (arith, length-append (tables place first) (cond (reaches_end first) xs []), tables_size first place, length_if (reaches_end first) xs (table_count rest) (tables_size rest (place + size first)))
tables_size (IfElse so other) place =
    let next = place + 1 + size so + jump_size so in
    omega (arith, length-append (tables (place + 1) so) (tables next other), tables_size so (place + 1), tables_size other next)
tables_size (IfThen so) place = tables_size so (place + 1)
tables_size (Cycle test body post exit) place =
    let body_at = place + size test + 1 in
    let post_at = body_at + size body in
    let exit_at = post_at + cond (turns body) (size post + 1) 0 in
    let b = tables body_at body in
    let p = cond (turns body) (tables post_at post) [] in
    let e = tables exit_at exit in
    omega (arith, length-append (tables place test) (b ++ (p ++ e)), length-append b (p ++ e), length-append p e, tables_size test place, tables_size body body_at, length_if (turns body) (tables post_at post) (table_count post) (tables_size post post_at), tables_size exit exit_at)
tables_size (Endless body post) place =
    let xs = tables (place + size body) post in
    omega (arith, length-append (tables place body) (cond (turns body) xs []), tables_size body place, length_if (turns body) xs (table_count post) (tables_size post (place + size body)))
tables_size (Choose q make ways) place = let e = tables_size ways (place + 1) in omega (arith, e)
tables_size (Way ks body others) place =
    let next = place + size body + jump_size body in
    omega (arith, length-append (tables place body) (tables next others), tables_size body place, tables_size others next)
tables_size (LastWay ks body) place = tables_size body place
tables_size Stop place = omega arith
tables_size Leave place = omega arith
tables_size Again place = omega arith

module _ (selects : List SelectTable) where
  -- each select of a plan at a pc finds its table under its number
  abbrev pub Tabled : ℕ → Plan → Type 0
  Tabled place Skip = Unit {0}
  Tabled place (Do i rest) = Tabled (place + 1) rest
  Tabled place (Seq first rest) = Tabled place first × OnTrue (reaches_end first) (Tabled (place + size first) rest)
  Tabled place (IfElse so other) = Tabled (place + 1) so × Tabled (place + 1 + size so + jump_size so) other
  Tabled place (IfThen so) = Tabled (place + 1) so
  Tabled place (Cycle test body post exit) =
      let body_at = place + size test + 1 in
      let post_at = body_at + size body in
      Tabled place test × Tabled body_at body × OnTrue (turns body) (Tabled post_at post) × Tabled (post_at + cond (turns body) (size post + 1) 0) exit
  Tabled place (Endless body post) = Tabled place body × OnTrue (turns body) (Tabled (place + size body) post)
  Tabled place (Choose q make ways) = (slice_get selects q ≡ Some (make (starts (place + 1) ways))) × Tabled (place + 1) ways
  Tabled place (Way ks body others) = Tabled place body × Tabled (place + size body + jump_size body) others
  Tabled place (LastWay ks body) = Tabled place body
  Tabled place Stop = Unit {0}
  Tabled place Leave = Unit {0}
  Tabled place Again = Unit {0}

  -- after the tables of a part
  beyond : (part : Plan) (place n : ℕ) (more rest : List SelectTable) → drop n selects ≡ (tables place part ++ more) ++ rest → (drop n selects ≡ tables place part ++ (more ++ rest)) × (drop (n + table_count part) selects ≡ more ++ rest)
  beyond part place n more rest e =
      let h = e ∙ append_assoc (tables place part) more rest in
      (h, ap (λ m. drop (n + m) selects) (sym (tables_size part place)) ∙ following selects n (tables place part) (more ++ rest) h)

  beyond_if : (b : Bool) (part : Plan) (place n : ℕ) (more rest : List SelectTable) → drop n selects ≡ (cond b (tables place part) [] ++ more) ++ rest
      → (drop n selects ≡ cond b (tables place part) [] ++ (more ++ rest)) × (drop (n + cond b (table_count part) 0) selects ≡ more ++ rest)
  beyond_if true part place n more rest e = beyond part place n more rest e
  beyond_if false part place n more rest e = let z : n ≡ n + 0 = omega arith in (e, subst (λ m. drop m selects ≡ more ++ rest) z e)

  -- the tables of a part that is there on a condition
  tabled_if : {N P : Type 0} (b : Bool) (n : ℕ) (xs rest : List SelectTable) → OnTrue b N → drop n selects ≡ cond b xs [] ++ rest → (N → drop n selects ≡ xs ++ rest → P) → OnTrue b P
  tabled_if true n xs rest m e go = go m e
  tabled_if false n xs rest m e go = tt

  -- numbered selects find the tables that the plan gives
  pub tabled : (p : Plan) (place n : ℕ) (rest : List SelectTable) → Numbered n p → drop n selects ≡ tables place p ++ rest → Tabled place p
  tabled Skip place n rest m e = tt
  tabled (Do i p) place n rest m e = tabled p (place + 1) n rest m e
  tabled (Seq first p) place n rest m e =
      let mid = place + size first in
      let xs = tables mid p in
      let more = cond (reaches_end first) xs [] in
      let h = beyond first place n more rest e in
      (tabled first place n (more ++ rest) m.0 h.0, tabled_if (reaches_end first) (n + table_count first) xs rest m.1 h.1 (tabled p mid (n + table_count first) rest))
  tabled (IfElse so other) place n rest m e =
      let next = place + 1 + size so + jump_size so in
      let h = beyond so (place + 1) n (tables next other) rest e in
      (tabled so (place + 1) n (tables next other ++ rest) m.0 h.0, tabled other next (n + table_count so) rest m.1 h.1)
  tabled (IfThen so) place n rest m e = tabled so (place + 1) n rest m e
  tabled (Cycle test body post exit) place n rest m e =
      let body_at = place + size test + 1 in
      let post_at = body_at + size body in
      let exit_at = post_at + cond (turns body) (size post + 1) 0 in
      let xs = tables post_at post in
      let te = tables exit_at exit in
      let tp = cond (turns body) xs [] ++ te in
      let tb = tables body_at body ++ tp in
      let nb = n + table_count test in
      let np = nb + table_count body in
      let h1 = beyond test place n tb rest e in
      let h2 = beyond body body_at nb tp rest h1.1 in
      let h3 = beyond_if (turns body) post post_at np te rest h2.1 in (
        tabled test place n (tb ++ rest) m.0 h1.0,
        tabled body body_at nb (tp ++ rest) m.1 h2.0,
        tabled_if (turns body) np xs (te ++ rest) m.2 h3.0 (tabled post post_at np (te ++ rest)),
        tabled exit exit_at (np + cond (turns body) (table_count post) 0) rest m.3 h3.1,
      )
  tabled (Endless body post) place n rest m e =
      let xs = tables (place + size body) post in
      let tp = cond (turns body) xs [] in
      let h = beyond body place n tp rest e in
      (tabled body place n (tp ++ rest) m.0 h.0, tabled_if (turns body) (n + table_count body) xs rest m.1 h.1 (tabled post (place + size body) (n + table_count body) rest))
  tabled (Choose q make ways) place n rest m e =
      let table = make (starts (place + 1) ways) in
      let more = tables (place + 1) ways ++ rest in
      (ap (slice_get selects) m.0 ∙ first_left selects n table more e, tabled ways (place + 1) (n + 1) rest m.1 (following selects n (table ∷ []) more e))
  tabled (Way ks body others) place n rest m e =
      let next = place + size body + jump_size body in
      let h = beyond body place n (tables next others) rest e in
      (tabled body place n (tables next others ++ rest) m.0 h.0, tabled others next (n + table_count body) rest m.1 h.1)
  tabled (LastWay ks body) place n rest m e = tabled body place n rest m e
  tabled Stop place n rest m e = tt
  tabled Leave place n rest m e = tt
  tabled Again place n rest m e = tt

-- ---- what is said of each table

module _ (P : SelectTable → Type 0) where
  -- each select of a plan makes such a table, at whatever pc it is
  abbrev pub Makes : Plan → Type 0
  Makes Skip = Unit {0}
  Makes (Do i rest) = Makes rest
  Makes (Seq first rest) = Makes first × OnTrue (reaches_end first) (Makes rest)
  Makes (IfElse so other) = Makes so × Makes other
  Makes (IfThen so) = Makes so
  Makes (Cycle test body post exit) = Makes test × Makes body × OnTrue (turns body) (Makes post) × Makes exit
  Makes (Endless body post) = Makes body × OnTrue (turns body) (Makes post)
  Makes (Choose q make ways) = ((place : ℕ) → P (make (starts place ways))) × Makes ways
  Makes (Way ks body others) = Makes body × Makes others
  Makes (LastWay ks body) = Makes body
  Makes Stop = Unit {0}
  Makes Leave = Unit {0}
  Makes Again = Unit {0}

  all_none : All P []
  all_none k d lt = absurd (omega (arith, lt))

  all_one : (table : SelectTable) → P table → All P (table ∷ [])
  all_one table h zero d lt = h
  all_one table h (suc k) d lt = absurd (omega (arith, lt))

  all_if : {N : Type 0} (b : Bool) (xs : List SelectTable) → OnTrue b N → (N → All P xs) → All P (cond b xs [])
  all_if true xs m all = all m
  all_if false xs m all = all_none

  -- then all of its tables are such
  pub all_made : (p : Plan) (place : ℕ) → Makes p → All P (tables place p)
  all_made Skip place m = all_none
  all_made (Do i rest) place m = all_made rest (place + 1) m
  all_made (Seq first rest) place m =
      let xs = tables (place + size first) rest in
      All-append P (tables place first) (cond (reaches_end first) xs []) (all_made first place m.0) (all_if (reaches_end first) xs m.1 (all_made rest (place + size first)))
  all_made (IfElse so other) place m =
      let next = place + 1 + size so + jump_size so in
      All-append P (tables (place + 1) so) (tables next other) (all_made so (place + 1) m.0) (all_made other next m.1)
  all_made (IfThen so) place m = all_made so (place + 1) m
  all_made (Cycle test body post exit) place m =
      let body_at = place + size test + 1 in
      let post_at = body_at + size body in
      let exit_at = post_at + cond (turns body) (size post + 1) 0 in
      let xs = tables post_at post in
      let p = cond (turns body) xs [] in
      let e = tables exit_at exit in
      All-append P (tables place test) (tables body_at body ++ (p ++ e)) (all_made test place m.0)
      (All-append P (tables body_at body) (p ++ e) (all_made body body_at m.1) (All-append P p e (all_if (turns body) xs m.2 (all_made post post_at)) (all_made exit exit_at m.3)))
  all_made (Endless body post) place m =
      let xs = tables (place + size body) post in
      All-append P (tables place body) (cond (turns body) xs []) (all_made body place m.0) (all_if (turns body) xs m.1 (all_made post (place + size body)))
  all_made (Choose q make ways) place m =
      let table = make (starts (place + 1) ways) in
      All-append P (table ∷ []) (tables (place + 1) ways) (all_one table (m.0 (place + 1))) (all_made ways (place + 1) m.1)
  all_made (Way ks body others) place m =
      let next = place + size body + jump_size body in
      All-append P (tables place body) (tables next others) (all_made body place m.0) (all_made others next m.1)
  all_made (LastWay ks body) place m = all_made body place m
  all_made Stop place m = all_none
  all_made Leave place m = all_none
  all_made Again place m = all_none
