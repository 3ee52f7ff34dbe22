-- What a block holds: a header in two parts, and its items in order.
use Rattle.std.specs.Prelude.{ℕ, List, [], ◌∷◌, Option, None, Some, refl, replicate}
use Rattle.std.specs.Coded.{Coded, code_by, coded×, coded_list}

pub record Contents (H K T : Type 0) : Type 0 where
  pub head : H
  pub keys : K
  pub items : List T

abbrev pub contents_code : {H K T : Type 0} → Coded H → Coded K → Coded T → Coded (Contents H K T)
contents_code {H} {K} {T} h k t = code_by (H × (K × List T)) (coded× h (coded× k (coded_list t)))
    (λ c. (c.head, (c.keys, c.items))) (λ p. record { head = p.0; keys = p.1.0; items = p.1.1 }) (λ _. refl)

-- contents with another header, other keys, other items
abbrev pub with_head : {H K T : Type 0} → Contents H K T → H → Contents H K T
with_head c h = record { head = h; keys = c.keys; items = c.items }

abbrev pub with_keys : {H K T : Type 0} → Contents H K T → K → Contents H K T
with_keys c k = record { head = c.head; keys = k; items = c.items }

abbrev pub with_items : {H K T : Type 0} → Contents H K T → List T → Contents H K T
with_items c xs = record { head = c.head; keys = c.keys; items = xs }

-- contents with this many vacant slots
abbrev pub all_vacant : {H K T : Type 0} → ℕ → H → K → Contents H K (Option T)
all_vacant width h k = record { head = h; keys = k; items = replicate width None }

-- the items in slots, in order
abbrev pub items_in : {X : Type 0} → List (Option X) → List X
items_in [] = []
items_in (None ∷ os) = items_in os
items_in (Some x ∷ os) = x ∷ items_in os
