-- DOCUMENTS: comments, the root, blank lines, the end. The reader's verdict is exact for every text and allowance, and one container more is enough.
use Rattle.std.specs.Prelude.{◌≡◌, refl, List, [], ◌∷◌, true, ℕ, suc, ◌<◌}
use Rattle.std.proofs.Common.{sym, ◌∙◌, arith}
use Rattle.notation.specs.Lang.{◌>>◌, Tail, Then, Ret, ret, byte, Star, nil, cons, End, end}
use Rattle.language.specs.Tree.{Tree}
use Rattle.language.specs.Characters.{Feed, Comment}
use Rattle.language.specs.Document.{Whole, Document}
use Rattle.exact.specs.Verdict.{Res, Verdict, takes, stops}
use Rattle.exact.specs.Class.{Starts, clash, is, only, starts_none, only_eq}
use Rattle.exact.specs.Out.{Reader, finish}
use Rattle.exact.specs.Lang.{Lang, Follow, bar, Fits, fits_bar, Exact, within_bar, within_same, weaken, ret_r, byte_r, end_r, end_verdict, end_begins}
use Rattle.exact.specs.Comb.{seq_r, seq_fits, seq_exact, many_r}
use Rattle.exact.specs.Ll.{Shape, Ll, ret_ll, seq_ll, star_ll, relax, byte₁}
use Rattle.exact.specs.Grow.{Sub, sub_refl, seq_sub, sub_begins}
use Rattle.exact.specs.More.{OneMore, calm, seq_more, finish_more, end_onward}
use Rattle.exact.specs.Decide.{Family}
use Rattle.characters.specs.Comments.{comment_r, comment_ll}
use Rattle.blocktext.specs.Follow.{lines}
use Rattle.blocks.specs.Root.{root_r, root_first, root_sub}

-- COMMENTS BEFORE THE ROOT
unfoldable pub head_r : Reader (List ℕ)
head_r = many_r (is (only 35)) (seq_r comment_r λ _. byte_r (is (only 10)))

abbrev pub head_s : Shape
head_s = record { null = true; first = only 35; follow = only 35 }

pub head_ll : Ll head_s (Star (Comment >> Feed)) head_r
unfolding head_r
head_ll = relax head_s refl refl refl (star_ll refl refl (seq_ll refl comment_ll λ _. byte₁ 10))

-- BLANK LINES AFTER IT
abbrev pub Blanks : Tree → Lang Tree
Blanks v = Star Feed >> Ret v

abbrev pub blanks_r : Tree → Reader Tree
blanks_r v = seq_r (many_r (is (only 10)) (byte_r (is (only 10)))) λ _. ret_r v

abbrev pub blanks_s : Shape
blanks_s = record { null = true; first = only 10; follow = only 10 }

pub blanks_ll : (v : Tree) → Ll blanks_s (Blanks v) (blanks_r v)
blanks_ll v = relax blanks_s refl refl refl (seq_ll refl (star_ll refl refl (byte₁ 10)) λ _. ret_ll v)

-- nothing follows
abbrev pub Done : Follow
Done = bar (Starts (λ b. true))

-- blank lines are no further line, and one less of them is as well
pub blanks_fit : (W : Type 0) (K : Tree → ℕ → Tail W) → Fits Done K → Fits (lines 0) (λ v. Then (Blanks v) K)
blanks_fit W K fi =
    record {
      clear = λ v a t w x d. not v a t w d x.first.first x.first.second x.others;
      gives = λ v a b t w x e. go v a b t w e x.first.first x.first.second x.others;
    }
  where
    not : (v : Tree) (a : ℕ) (t : List ℕ) (w : W) → (lines 0).bars t → {bs : List ℕ} {a₁ a₂ : ℕ} {t₁ t₂ : List ℕ} {y : Tree} → Star Feed a t bs a₁ t₁ → Ret v a₁ t₁ y a₂ t₂
        → K y a₂ t₂ w → ⊥
    not v a [] w d nil ret z = clash d refl
    not v a (b ∷ t) w d nil ret z = fi.clear v a (b ∷ t) w z refl
    not v a _ w d (cons (byte {b = b} e) y) q z = clash (rw (only_eq 10 b e) at d) refl

    go : (v : Tree) (a b : ℕ) (t : List ℕ) (w : W) → is (only 10) b ≡ true → {bs : List ℕ} {a₁ a₂ : ℕ} {t₁ t₂ : List ℕ} {y : Tree} → Star Feed a (b ∷ t) bs a₁ t₁
        → Ret v a₁ t₁ y a₂ t₂ → K y a₂ t₂ w → Then (Blanks v) K (suc a) t w
    go v a b t w e nil ret z = absurd (fi.clear v a (b ∷ t) w z refl)
    go v a b t w e (cons {vs = vs} {at₂ = a₂} {s₂ = s₂} (byte f) y) ret z =
        record { value = v; next = a₂; rest = s₂; first = record { value = vs; middle = a₂; rest = s₂; first = y; second = ret }; others = z }

-- THE WHOLE
unfoldable pub whole_r : ℕ → Reader Tree
whole_r k = seq_r head_r λ _. seq_r (root_r k) blanks_r

pub whole_sub : (k : ℕ) → Sub (Whole k) (Whole (suc k))
whole_sub k = seq_sub (sub_refl _) λ _. seq_sub (root_sub k) λ v. sub_refl _

unfoldable pub verdict : ℕ → List ℕ → Res Tree
verdict k s = finish (whole_r k 0 s) end_r
