use Rattle.std.proofs.Common.{arith, length, ap, sym, ◌∙◌, ◌∷◌, ◌++◌, [], List, ℕ, reverse}
use Rattle.std.proofs.lemmas.List.{length-append}
use Rattle.rart_trie.specs.walks.Walk.{join_all}
use Rattle.rart_nodes.specs.ranges.DescendingWalk.{remaining_entries}
use Rattle.rart_nodes.specs.walks.PathParts.{byte_segments, kept_bytes}
use Rattle.rart_trie.proofs.edits.InsertLemmas.{fewer-within}
use Rattle.rart_nodes.proofs.walks.PathLemmas.{key-walk}
use Rattle.rart_nodes.proofs.walks.EntryLemmas.{join-append, joins-bytes, length-bytes}
use Rattle.rart_nodes.proofs.node.iter.descending.DescendingKeyWalk.step.Goals as goal

pub invariant_of-self : goal.invariant_of-self
invariant_of-self g c
    = key-walk c.retreat.ensures.path c.retreat.ensures.reserved (omega (arith, c.retreat.ensures.longest))
    c.self.invariant.within

pub joined-requires : goal.joined-requires
joined-requires g c =
    fewer-within _ _ _ (omega (
      arith,
      c.retreat.ensures.path.short,
      length-bytes (kept_bytes c.retreat.new.path),
      ap length c.parts.ensures,
      length-append c.parts.result.0.now c.parts.result.1.now,
      c.retreat.ensures.longest,
    )) c.self.invariant.within

pub invariant_of-self-2 : goal.invariant_of-self-2
invariant_of-self-2 g c
    = key-walk c.retreat.ensures.path c.retreat.ensures.reserved (omega (arith, c.retreat.ensures.longest))
    c.self.invariant.within

pub returns-clause-pairs : goal.returns-clause-pairs
returns-clause-pairs g c =
    let rest = remaining_entries byte_segments (byte_segments (kept_bytes c.retreat.new.path))
    (reverse c.retreat.new.self.levels.items) in
    let bytes = kept_bytes c.retreat.new.path in
    let k = byte_segments bytes in
    sym c.self.view_is ∙ ap join_all c.in_ok-value.ensures.entries
    ∙ join-append rest ((k, c.in_ok-value.value.now) ∷ [])
    ∙ ap (λ (k : List ℕ). join_all rest ++ (k, c.in_ok-value.value.now) ∷ []) (joins-bytes bytes
    ∙ c.parts.ensures ∙ sym c.joined.ensures)
