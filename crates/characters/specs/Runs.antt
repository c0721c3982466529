-- A RUN OF BYTES, passed at once, is as many steps of one byte each. Assumes nothing.
use Rattle.std.specs.Prelude.{◌≡◌, refl, List, [], ◌∷◌, Bool, true, false, ℕ, zero, suc, ◌+◌, ◌-◌, ◌≤◌, ◌<◌, length}
use Rattle.std.proofs.Common.{sym, ap, subst, ◌∙◌, add-zero, add-one, arith}
use Rattle.std.proofs.Math.Decide.{dec_le}
use Rattle.std.proofs.Math.ListN.{get_or-eq_default}
use Rattle.std.proofs.Math.Seq.{slice, slice-cons, slice_empty}
use Rattle.exact.specs.Class.{Class, is}
use Rattle.exact.specs.Place.{peek, run_end, run_over, run_none, run_more}
use Rattle.characters.specs.declared.Reading.{Reading}
use Rattle.std.specs.declared.option.Option.TheVariants.{Some}
use Rattle.std.specs.declared.result.Result.TheVariants.{Ok}
use Rattle.characters.specs.Reads.{ByteRead, ReadAt, WideAt}

-- the bytes bs, taken one at a time, lead from `at` to e
pub data Bytes (doc : List ℕ) : ℕ → List ℕ → ℕ → Type 0 where
  no_byte : {at : ℕ} → Bytes doc at [] at
  a_byte : {at b e : ℕ} {n : Reading} {bs : List ℕ} → ByteRead doc at (Some (b, n)) → Bytes doc n.at bs e → Bytes doc at (b ∷ bs) e

one_more : (doc : List ℕ) (at e : ℕ) (bs : List ℕ) → at < length doc → Bytes doc (at + 1) bs e → Bytes doc at (peek doc at ∷ bs) e
unfolding ByteRead
one_more doc at e bs l h = a_byte {n = record { at = at + 1 }} (l, refl, refl) h

-- WHATEVER STANDS between two places of a document is such steps
pub slice_steps : (doc : List ℕ) (at e : ℕ) → at ≤ e → e ≤ length doc → Bytes doc at (slice at e doc) e
slice_steps doc at e h l = subst (λ n. Bytes doc at (slice at n doc) n) (let z : at + (e - at) ≡ e = omega arith in z) (go (e - at) at (omega arith))
  where
    go : (k at : ℕ) → at + k ≤ length doc → Bytes doc at (slice at (at + k) doc) (at + k)
    go zero at m = rw (add-zero at, slice_empty at doc) no_byte
    go (suc k) at m =
        let z : at + 1 + k ≡ at + suc k = omega arith in
        let s : slice at (at + suc k) doc ≡ peek doc at ∷ slice (at + 1) (at + suc k) doc = rw (add-one at) (slice-cons at (at + suc k) doc 256 (omega arith) (omega arith)) in
        subst
        (λ bs. Bytes doc at bs (at + suc k))
        (sym s)
        (one_more doc at (at + suc k) (slice (at + 1) (at + suc k) doc) (omega arith) (subst (λ n. Bytes doc (at + 1) (slice (at + 1) n doc) n) z (go k (at + 1) (omega arith))))

-- bytes of a class
abbrev pub Each : Class → List ℕ → Type 0
Each c [] = Unit {0}
Each c (b ∷ bs) = (is c b ≡ true) × Each c bs

-- A RUN of a class: as many steps, each with a byte of it, and the next byte is none
pub record Passed (c : Class) (doc : List ℕ) (at e : ℕ) : Type 0 where
  pub bytes : List ℕ
  pub steps : Bytes doc at bytes e
  pub each : Each c bytes
  pub next : is c (peek doc e) ≡ false

pub run_steps : (c : Class) (doc : List ℕ) (at : ℕ) → is c 256 ≡ false → Passed c doc at (run_end c doc at)
run_steps c doc at n = go (length doc) at (omega arith)
  where
    over : (at : ℕ) → length doc ≤ at → Passed c doc at (run_end c doc at)
    over at l =
        subst
        (Passed c doc at)
        (sym (run_over c doc at l))
        (record { bytes = []; steps = no_byte; each = tt; next = ap (is c) (get_or-eq_default doc 256 l) ∙ n })

    go : (k at : ℕ) → length doc ≤ at + k → Passed c doc at (run_end c doc at)
    go zero at l = over at (omega arith)
    go (suc k) at l = by (dec_le (length doc) at) (is c (peek doc at)) refl (go k (at + 1) (omega arith))
      where
        by : Dec (length doc ≤ at) → (x : Bool) → is c (peek doc at) ≡ x → Passed c doc (at + 1) (run_end c doc (at + 1)) → Passed c doc at (run_end c doc at)
        by (yes h) x e p = over at h
        by (no h) true e p =
            let i : at < length doc = omega arith in
            subst
            (Passed c doc at)
            (sym (run_more c doc at i e))
            (record { bytes = peek doc at ∷ p.bytes; steps = one_more doc at (run_end c doc (at + 1)) p.bytes i p.steps; each = (e, p.each); next = p.next })
        by (no h) false e p = subst (Passed c doc at) (sym (run_none c doc at n e)) (record { bytes = []; steps = no_byte; each = tt; next = e })

-- THE BYTES OF ONE CHARACTER, passed at once, are a step of `scalar`
pub wide_step : (doc : List ℕ) (at n : ℕ) → WideAt doc at (Ok n) → (v : ℕ) × ReadAt doc at (Ok (v, (record { at = n })))
unfolding WideAt ReadAt
wide_step doc at n w = (w.value, w.stands)

-- NO LF stands from `at` up to e
pub record Dried (doc : List ℕ) (at e : ℕ) : Type 0 where
  pub from : at ≤ e
  pub inside : e ≤ length doc
  pub dry : (j : ℕ) → at ≤ j → j < e → peek doc j ≡ 10 → ⊥

-- .. and where the document goes on, it goes on with one
pub record Fed (doc : List ℕ) (at e : ℕ) : Type 0 where
  pub dried : Dried doc at e
  pub feed : e < length doc → peek doc e ≡ 10
