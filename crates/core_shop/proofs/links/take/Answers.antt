use Rattle.std.proofs.Common.{◌≡◌, ◌∙◌, ℕ, List, [], ◌∷◌, None, slice_get, drop, refl, sym, ap}
use Rattle.core_shop.proofs.links.take.Goals as goal

-- where there is no first there is nothing that could leave
none_left : (frames : List (List ℕ)) → slice_get frames 0 ≡ None → drop 1 frames ≡ frames
none_left [] none = refl
none_left (frame ∷ frames) none = absurd (cc)

pub returns-in-None-clause-stays : goal.returns-in-None-clause-stays
returns-in-None-clause-stays c = λ _.
    c.in-None.ensures.after
    ∙ ap (λ (frames : List (List ℕ)). record c.args.plant.now { waiting = frames }) (none_left c.args.plant.now.waiting (sym c.in-None.ensures.frame))
