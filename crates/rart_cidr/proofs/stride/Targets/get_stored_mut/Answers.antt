use Rattle.std.proofs.Common.{◌≡◌, [], ◌∷◌, refl, ap, sym, ◌∙◌}
use Rattle.rart_keys.specs.SortedMap.{lookup, put}
use Rattle.rart_cidr.specs.Targets.{pairs_of}
use Rattle.rart_cidr.proofs.routes.LoanLemmas.{on_some}
use Rattle.rart_cidr.proofs.stride.Targets.get_stored_mut.Goals as goal
use Rattle.rart_cidr.proofs.stride.Targets.get_stored_mut.Goals.{in-One+else-stored-code, in_default}

pub get_stored_mut-requires : goal.get_stored_mut-requires
get_stored_mut-requires g c =
    let map : c.deref_mut.result.now ≡ c.in-Many.map.value = c.deref_mut.ensures.value
    ∙ ap (λ m. m.value) c.in-Many.map-is in
    let same : c.match-self.self ≡ c.args.self.now = elim c.match-self.branch
    as (λ _. c.match-self.self ≡ c.args.self.now) [
      | in-One+else-stored-code w ↦ w.self-is ∙ sym w.in-One.is
      | in_default w ↦ w.self-is
    ] in
    record {
      stored = λ e. c.requires.stored (ap (lookup (c.args.code ∷ []))
          (sym (map ∙ ap pairs_of (sym c.in-Many.is ∙ same))) ∙ e);
    }

pub returns-in-Many : goal.returns-in-Many
returns-in-Many g c =
    let map : c.deref_mut.result.now ≡ c.in-Many.map.value = c.deref_mut.ensures.value
    ∙ ap (λ m. m.value) c.in-Many.map-is in
    let same : c.match-self.self ≡ c.args.self.now = elim c.match-self.branch
    as (λ _. c.match-self.self ≡ c.args.self.now) [
      | in-One+else-stored-code w ↦ w.self-is ∙ sym w.in-One.is
      | in_default w ↦ w.self-is
    ] in
    let pairs : c.deref_mut.result.now ≡ pairs_of c.args.self.now = map ∙ ap pairs_of (sym c.in-Many.is ∙ same) in (
      (
        refl,
        λ w. on_some c.get_stored_mut.result (λ h. rw c.in-Many.is (h ∙ ap (put (c.args.code ∷ []) w) pairs))
            (c.get_stored_mut.follows.holds w),
        rw c.in-Many.is (c.get_stored_mut.follows.holds-at-none ∙ pairs),
      ),
      record {
        writes_back = tt;
        value = c.get_stored_mut.ensures.value ∙ ap (lookup (c.args.code ∷ [])) pairs;
      },
    )
