use Rattle.std.proofs.Common.{◌≡◌, ◌∙◌, ◌∷◌, ◌++◌, [], List, Option, Some, ap, length}
use Rattle.one_thread.specs.declared.goroutine.Goroutine.{Goroutine}
use Rattle.one_thread.proofs.Keyed.{keyed_start}
use Rattle.one_thread.proofs.places.Places.start.Goals as goal

pub invariant_of-self-2 : goal.invariant_of-self-2
invariant_of-self-2 g c =
    let items : c.push_reserved.new.self.items ≡ c.self.inside.all.items ++ Some c.args.goroutine ∷ [] = c.push_reserved.ensures.items ∙ ap (λ (l : List (Option (Goroutine g.row.S.Denot))). l ++ Some c.args.goroutine ∷ []) c.reserve.ensures.items in
    let place : c.len-place.result ≡ length c.self.inside.all.items = c.len-place.ensures ∙ c.reserve.new.self.ok.0 ∙ ap (λ (l : List (Option (Goroutine g.row.S.Denot))). length l) c.reserve.ensures.items in
    rw (items, c.note.ensures, c.key_of.ensures, c.in_ok-push.ensures.ok) (keyed_start c.self.inside.all.items c.self.inside.keys c.len-place.result c.args.goroutine c.self.invariant place)
