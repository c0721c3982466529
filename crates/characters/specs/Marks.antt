-- A COMMENT, A LINE COMMENT, AND NONE at a place of a document, by the bytes that were taken first. Assumes nothing.
use Rattle.std.specs.Prelude.{◌≡◌, List, [], ◌∷◌, ℕ, ◌≤◌, length, drop}
use Rattle.std.proofs.Math.Path.{refl, ap}
use Rattle.std.proofs.Common.{◌∙◌, arith}
use Rattle.exact.specs.Class.{is, only}
use Rattle.exact.specs.Out.{Out, Reader, bind, bad}
use Rattle.exact.specs.Lang.{ret_r, byte_r}
use Rattle.exact.specs.Ll.{word_r}
use Rattle.exact.specs.Place.{peek, byte_not, alt_is, alt_not}
use Rattle.characters.specs.Reads.{Skip}
use Rattle.std.specs.declared.result.Result.TheVariants.{Err, Ok}
use Rattle.characters.specs.Reads.{Ends, Skips, ends_of, bad_of}
use Rattle.characters.specs.Takes.{take_byte, take_place, take_other}
use Rattle.characters.specs.Comments.{pieces_r, comment_r, line_comment_r, optional_comment_r}

pub comment_none : (doc : List ℕ) (at : ℕ) → (peek doc at ≡ 35 → ⊥) → comment_r at (drop at doc) ≡ bad at
comment_none doc at n = ap (λ o. bind o (λ _. pieces_r)) (byte_not doc at 35 (peek doc at) (omega arith) refl n)

abbrev pub take_r : ℕ → Reader ℕ
take_r b = byte_r (is (only b))

-- what reads on where the first reader ended
pub skips_on : {X : Type 0} (doc : List ℕ) (at n : ℕ) (o o' : Out X) (r : Skip) → o ≡ o' → at ≤ n → Skips doc n o' r → Skips doc at o r
unfolding Skips
skips_on doc at n o o' (Ok e) same l h = record { value = h.value; is = same ∙ h.is; behind = omega (arith, h.behind); inside = h.inside }
skips_on doc at n o o' (Err p) same l h = same ∙ h

module _ (doc : List ℕ) (at : ℕ) (g : Skip) where
  module _ (h : Skips doc at (take_r 35 at (drop at doc)) g) where
    pub comment_absent : (p : ℕ) → g ≡ Err p → Skips doc at (comment_r at (drop at doc)) (Err p)
    unfolding Skips
    comment_absent p z = ap (λ o. bind o (λ _. pieces_r)) (bad_of doc at (take_r 35 at (drop at doc)) g p z h)

    pub comment_on : (n : ℕ) → g ≡ Ok n → (r : Skip) → Skips doc n (pieces_r n (drop n doc)) r → Skips doc at (comment_r at (drop at doc)) r
    comment_on n z r s =
        let e = ends_of doc at (take_r 35 at (drop at doc)) g n z h in
        skips_on doc at n (comment_r at (drop at doc)) (pieces_r n (drop n doc)) r (ap (λ o. bind o (λ _. pieces_r)) e.is) e.behind s

    pub comment_inside : (n : ℕ) → g ≡ Ok n → n ≤ length doc
    comment_inside n z = (ends_of doc at (take_r 35 at (drop at doc)) g n z h).inside

  module _ (h : Skips doc at (take_r 32 at (drop at doc)) g) where
    pub line_absent : (p : ℕ) → g ≡ Err p → Skips doc at (line_comment_r at (drop at doc)) (Err p)
    unfolding Skips
    line_absent p z = ap (λ o. bind (bind o (λ _. word_r (32 ∷ []))) (λ _. comment_r)) (bad_of doc at (take_r 32 at (drop at doc)) g p z h)

    pub option_absent : at ≤ length doc → (p : ℕ) → g ≡ Err p → Skips doc at (optional_comment_r at (drop at doc)) (Ok p)
    unfolding Skips
    option_absent l p z =
        rw
        (take_place doc at 32 (omega arith) g h p z)
        (record {
          value = [];
          is = alt_not doc at 32 (peek doc at) (omega arith) refl line_comment_r (ret_r []) (take_other doc at 32 (omega arith) g h p z);
          behind = omega arith;
          inside = l;
        })

    module _ (n : ℕ) (z : g ≡ Ok n) where
      space : Ends doc at (take_r 32 at (drop at doc)) n
      space = ends_of doc at (take_r 32 at (drop at doc)) g n z h

      pub option_on : (r : Skip) → Skips doc at (line_comment_r at (drop at doc)) r → Skips doc at (optional_comment_r at (drop at doc)) r
      option_on r s =
          skips_on doc at at (optional_comment_r at (drop at doc)) (line_comment_r at (drop at doc)) r
          (alt_is doc at 32 32 (omega arith) (take_byte doc at 32 (omega arith) g h n z) line_comment_r (ret_r []) refl)
          (omega arith)
          s

      after : line_comment_r at (drop at doc) ≡ bind (bind (take_r 32 n (drop n doc)) (λ _. word_r [])) (λ _. comment_r)
      after = ap (λ o. bind (bind o (λ _. word_r (32 ∷ []))) (λ _. comment_r)) space.is

      module _ (k : Skip) (y : Skips doc n (take_r 32 n (drop n doc)) k) where
        pub line_half : (p : ℕ) → k ≡ Err p → Skips doc at (line_comment_r at (drop at doc)) (Err p)
        unfolding Skips
        line_half p x = after ∙ ap (λ o. bind (bind o (λ _. word_r [])) (λ _. comment_r)) (bad_of doc n (take_r 32 n (drop n doc)) k p x y)

        pub line_on : (m : ℕ) → k ≡ Ok m → (r : Skip) → Skips doc m (comment_r m (drop m doc)) r → Skips doc at (line_comment_r at (drop at doc)) r
        line_on m x r s =
            let e = ends_of doc n (take_r 32 n (drop n doc)) k m x y in
            skips_on doc at m (line_comment_r at (drop at doc)) (comment_r m (drop m doc)) r
            (after ∙ ap (λ o. bind (bind o (λ _. word_r [])) (λ _. comment_r)) e.is)
            (omega (arith, space.behind, e.behind))
            s
