-- A line that is printed piece by piece.
use Rattle.std.proofs.Common.{◌≡◌, ℕ, List, ◌++◌, Option, subst, ◌∙◌, append_assoc}
use Rattle.std.specs.Io.KnownBytes.{Appends}
use Rattle.rart_lines.proofs.RunLemmas.{Appends-both}

-- of a whole text so much was printed that the rest is left
pub record HasPrinted (old new : Option (List ℕ)) (rest whole : List ℕ) : Type 0 where
  pub printed : List ℕ
  pub appends : Appends old new printed
  pub meets : printed ++ rest ≡ whole

pub print-begins : (old new : Option (List ℕ)) (text rest whole : List ℕ) → Appends old new text → text ++ rest ≡ whole
    → HasPrinted old new rest whole
print-begins old new text rest whole h e = record { printed = text; appends = h; meets = e }

pub print-continues : (a b c : Option (List ℕ)) (text rest whole : List ℕ) → HasPrinted a b (text ++ rest) whole
    → Appends b c text → HasPrinted a c rest whole
print-continues a b c text rest whole h more
    = record {
      printed = h.printed ++ text;
      appends = Appends-both a b c h.printed text h.appends more;
      meets
          = append_assoc h.printed text rest ∙ h.meets;
    }

pub print-ends : (a b c : Option (List ℕ)) (rest whole : List ℕ) → HasPrinted a b rest whole → Appends b c rest
    → Appends a c whole
print-ends a b c rest whole h more = subst (Appends a c) h.meets (Appends-both a b c h.printed rest h.appends more)
