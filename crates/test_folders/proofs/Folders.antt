-- The programs that paths stand for, path by path.
use Rattle.std.proofs.Common.{◌≡◌, ◌+◌, ◌<◌, ◌≤◌, ℕ, List, [], ◌++◌, length, drop, get_or, map, sym, ap, subst, ◌∙◌}
use Rattle.std.proofs.lemmas.List.{append_assoc, append-nil, drop_all, drop_more}
use Rattle.test_folders.specs.Folders.{AreTests, NoPath, Path, StandsFor}

-- the programs of one path more
pub path_next : {X : Type 0} (f : X → List ℕ) (paths : List X) (at : ℕ) (d : X) (old tests new : List (List ℕ)) → at < length paths → StandsFor (f (get_or paths at d)) tests
    → ((later : List (List ℕ)) → AreTests (map f (drop at paths)) later → AreTests (map f paths) (old ++ later)) → new ≡ old ++ tests
    → (later : List (List ℕ)) → AreTests (map f (drop (at + 1) paths)) later → AreTests (map f paths) (new ++ later)
path_next f paths at d old tests new within stands was grows later rest =
    subst (AreTests (map f paths)) (sym (append_assoc old tests later) ∙ ap (λ (l : List (List ℕ)). l ++ later) (sym grows))
    (was (tests ++ later)
    (subst (λ ps. AreTests (map f ps) (tests ++ later)) (sym (drop_more paths at d within)) (Path (f (get_or paths at d)) (map f (drop (at + 1) paths)) tests later stands rest)))

-- those of all paths
pub path_last : {X : Type 0} (f : X → List ℕ) (paths : List X) (at : ℕ) (found : List (List ℕ)) → length paths ≤ at
    → ((later : List (List ℕ)) → AreTests (map f (drop at paths)) later → AreTests (map f paths) (found ++ later)) → AreTests (map f paths) found
path_last f paths at found all was =
    subst (AreTests (map f paths)) (append-nil found) (was [] (subst (λ ps. AreTests (map f ps) []) (sym (drop_all at paths all)) NoPath))
