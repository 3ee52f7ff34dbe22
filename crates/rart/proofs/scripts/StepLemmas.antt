-- A run of calls, as far as it has come.
use Rattle.std.proofs.Common.{◌≡◌, ℕ, ◌+◌, List, [], ◌∷◌, ◌++◌, Result, Ok, Err, length, refl, sym, subst, arith}
use Rattle.std.proofs.Common.{append_assoc, length-append}
use Rattle.std.specs.Prelude.{IfErr, IsErrAnd}
use Rattle.std.proofs.lemmas.List.{append-nil}
use Rattle.rart.specs.declared.script.call.Call.{Call}
use Rattle.rart.specs.declared.script.reply.Reply.{Reply}
use Rattle.rart.specs.Steps.{IsRun, IsStep}

-- the calls that are still ahead end the run that began with `map`, and there was a reply for each of the others
pub record HasRun {K V : Type 0} (sure : V → Type 0) (bytes : K → List ℕ) (map : List (List ℕ × V))
    (calls : List (Call K V)) (replies : List (Reply K V)) (now : List (List ℕ × V)) (ahead : List (Call K V))
    : Type 0 where
  pub continues_by : (later : List (Reply K V)) (last : List (List ℕ × V)) → IsRun sure bytes now ahead later last
      → IsRun sure bytes map calls (replies ++ later) last
  pub many : length replies + length ahead ≡ length calls

pub run-begins : {K V : Type 0} (sure : V → Type 0) (bytes : K → List ℕ) (map : List (List ℕ × V))
    (calls : List (Call K V)) (replies : List (Reply K V)) (ahead : List (Call K V))
    → replies ≡ [] → ahead ≡ calls → HasRun sure bytes map calls replies map ahead
run-begins sure bytes map calls replies ahead e f = rw (e, f)
    (record { continues_by = λ later last h. h; many = omega arith })

pub run-continues : {K V : Type 0} (reply : Reply K V) {sure : V → Type 0} {bytes : K → List ℕ}
    {map : List (List ℕ × V)} {calls : List (Call K V)} {replies more : List (Reply K V)}
    {now next : List (List ℕ × V)} {call : Call K V}
    {ahead rest : List (Call K V)} → ahead ≡ call ∷ rest → more ≡ replies ++ reply ∷ []
    → HasRun sure bytes map calls replies now ahead
    → IsStep sure bytes now call reply next → HasRun sure bytes map calls more next rest
run-continues reply {sure} {bytes} {map} {calls} {replies} {now} {next} {call} {rest} e f run step =
    let had : HasRun sure bytes map calls replies now (call ∷ rest) = rw e at run in
    rw f (record {
      continues_by = λ later last h. subst (λ rs. IsRun sure bytes map calls rs last)
          (sym (append_assoc replies (reply ∷ []) later)) (had.continues_by (reply ∷ later) last (next, (step, h)));
      many = omega (arith, had.many, length-append replies (reply ∷ []));
    })

pub run-ends : {K V : Type 0} (sure : V → Type 0) (bytes : K → List ℕ) (map : List (List ℕ × V))
    (calls : List (Call K V)) (replies : List (Reply K V)) (now : List (List ℕ × V)) (ahead : List (Call K V))
    → length ahead ≡ 0 → HasRun sure bytes map calls replies now ahead → IsRun sure bytes map calls replies now
run-ends sure bytes map calls replies now [] e run
    = subst (λ rs. IsRun sure bytes map calls rs now) (append-nil replies) (run.continues_by [] now refl)
run-ends sure bytes map calls replies now (c ∷ cs) e run = absurd (omega arith)

-- why a call was refused, beside a fact that holds then
pub refused-some : {A E P : Type 0} (r : Result A E) (m : E) → IsErrAnd r (λ e. e ≡ m) → P → IfErr r (λ e. (e ≡ m) × P)
refused-some (Ok x) m h p = tt
refused-some (Err e) m h p = (h, p)
