use Rattle.std.proofs.Common.{◌≡◌, ◌∙◌, None, false, sym, ap, arith}
use Rattle.rart_parts.specs.Places.{is_used}
use Rattle.rart_parts.proofs.PlaceLemmas.{array_with, free_read}
use Rattle.rart_parts.proofs.PlaceLemmas.{place_reads}
use Rattle.rart_parts.proofs.utils.bitarray.BitArray.put.Goals as goal

pub fill_place-requires : goal.fill_place-requires
fill_place-requires g c =
    let os = c.self.inside.places.items in
    let free : is_used os c.args.position ≡ false = ap (λ xs. is_used xs c.args.position) c.self.view_is
    ∙ c.requires.free in
    sym (place_reads os c.args.position c.index_mut.result.now None
    (omega (arith, c.requires.in_range, c.self.invariant.full)) c.index_mut.ensures.value)
    ∙ free_read os c.args.position free

pub invariant_of-self : goal.invariant_of-self
invariant_of-self g c = rw c.fill_place.ensures
    (array_with c.self.invariant c.args.position c.args.x c.requires.in_range c.deref.ensures.value c.find_used.ensures
    c.set.ensures)
