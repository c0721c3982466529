-- LINES LAID OUT at a column: any number of them, each on its spaces, and the same with the first one here. Assumes nothing.
use Rattle.std.specs.Prelude.{◌≡◌, refl, List, [], ◌∷◌, ◌++◌, Bool, true, false, ℕ, zero, suc, ◌+◌, length, drop}
use Rattle.std.proofs.Common.{sym, ap, ◌∙◌, append_assoc}
use Rattle.notation.specs.Lang.{Lang, Map, Star, Indented}
use Rattle.exact.specs.Class.{clash}
use Rattle.language.specs.BlockText.{spaces}
use Rattle.language.specs.Blocks.{Lines}
use Rattle.house.specs.Spells.{Spells, respelt, spelt_as, star_none, star_more, ret_reads, seq_reads, last_reads, indented_reads}

pub drop_spaces : (n : ℕ) (w : List ℕ) → drop n (spaces n ++ w) ≡ w
drop_spaces zero w = refl
drop_spaces (suc n) w = drop_spaces n w

-- the bytes w are As, each on n spaces; where they are not none, behind the first n spaces they are As of which the first begins here
pub record Laid {X : Type 0} (n : ℕ) (A : Lang X) (without : Bool) (w : List ℕ) (P : List X → Type 0) : Type 0 where
  pub starred : (at : ℕ) → Spells (Star (Indented n A)) at w P
  pub lines : without ≡ false → (at : ℕ) → Spells (Lines n A) at (drop n w) P
  pub indents : without ≡ false → spaces n ++ drop n w ≡ w

module _ {X : Type 0} {n : ℕ} {A : Lang X} {P : List X → Type 0} where
  pub laid_none : P [] → Laid n A true [] P
  laid_none p =
      record {
        starred = λ at. record { value = []; reads = star_none; good = p };
        lines = λ e. absurd (clash refl e);
        indents = λ e. absurd (clash refl e);
      }

  pub laid_more : {Q : X → Type 0} {R : List X → Type 0} {c : Bool} {w : List ℕ} (h l : List ℕ) → w ≡ spaces n ++ (h ++ l)
      → ((at : ℕ) → Spells A at h Q) → Laid n A c l R → ((v : X) (vs : List X) → Q v → R vs → P (v ∷ vs)) → Laid n A false w P
  laid_more {w = w} h l e f r k =
      record {
        starred = λ at.
            let x = f (at + n) in
            let y = r.starred (at + length (spaces n ++ h)) in
            spelt_as
            (append_assoc (spaces n) h l ∙ sym e)
            (record { value = x.value ∷ y.value; reads = star_more (indented_reads n x.reads) y.reads; good = k x.value y.value x.good y.good });
        lines = λ _ at.
            let x = f at in
            let y = r.starred (at + length h) in
            spelt_as
            (sym d)
            (record { value = x.value ∷ y.value; reads = seq_reads x.reads (last_reads y.reads ret_reads); good = k x.value y.value x.good y.good });
        indents = λ _. ap (spaces n ++◌) d ∙ sym e;
      }
    where
      d : drop n w ≡ h ++ l
      d = ap (drop n) e ∙ drop_spaces n (h ++ l)

module _ {X Y : Type 0} {n : ℕ} {A : Lang X} {c : Bool} {w : List ℕ} {P : List X → Type 0} {Q : Y → Type 0} (r : Laid n A c w P) (e : c ≡ false) where
  -- a block of them that begins here
  pub block_spells : (g : List X → Y) → ((vs : List X) → P vs → Q (g vs)) → (at : ℕ) → Spells (Map g (Lines n A)) at (drop n w) Q
  block_spells g h at =
      let x = r.lines e at in
      record { value = g x.value; reads = last_reads x.reads ret_reads; good = h x.value x.good }

  -- what begins behind the first spaces
  pub below_spells : {B : Lang Y} → ((at : ℕ) → Spells B at (drop n w) Q) → (at : ℕ) → Spells (Indented n B) at w Q
  below_spells f at =
      let x = f (at + n) in
      record { value = x.value; reads = respelt (r.indents e) (indented_reads n x.reads); good = x.good }
