-- DOCUMENTS: comments, the root, blank lines, the end. The reader's verdict is exact for every text and allowance, and one container more is enough.
use Rattle.std.specs.Prelude.{◌≡◌, refl, List, [], ◌∷◌, true, ℕ, suc, ◌<◌}
use Rattle.std.proofs.Common.{sym, ◌∙◌, arith}
use Rattle.notation.specs.Lang.{◌>>◌, Tail, Then, Ret, ret, byte, Star, nil, cons, End, end}
use Rattle.language.specs.Tree.{Tree}
use Rattle.language.specs.Characters.{Feed, Comment}
use Rattle.language.specs.Document.{Whole, Document}
use Rattle.exact.specs.Verdict.{Res, Verdict, takes, stops}
use Rattle.exact.specs.Class.{Starts, clash, is, only, starts_none, only_eq}
use Rattle.exact.specs.Out.{Reader, finish}
use Rattle.exact.specs.Lang.{Lang, Follow, bar, Fits, fits_bar, Exact, within_bar, within_same, weaken, ret_r, byte_r, end_r, end_verdict, end_begins}
use Rattle.exact.specs.Comb.{seq_r, seq_fits, seq_exact, many_r}
use Rattle.exact.specs.Ll.{Shape, Ll, ret_ll, seq_ll, star_ll, relax, byte₁}
use Rattle.exact.specs.Grow.{Sub, sub_refl, seq_sub, sub_begins}
use Rattle.exact.specs.More.{OneMore, calm, seq_more, finish_more, end_onward}
use Rattle.exact.specs.Decide.{Family}
use Rattle.characters.specs.Comments.{comment_r, comment_ll}
use Rattle.blocktext.specs.Follow.{lines}
use Rattle.blocks.specs.Root.{root_r, root_first, root_sub}
use Rattle.blocks.proofs.RootLaws.{root_exact, root_opens, root_more}
use Rattle.blocks.specs.Document.{Blanks, Done, blanks_fit, blanks_ll, blanks_r, head_ll, verdict, whole_r, whole_sub}

blanks_exact : (v : Tree) → Exact 0 (Blanks v) Done (blanks_r v)
blanks_exact v = weaken 0 Done (omega arith) (within_bar _ Done anything) (blanks_ll v).exact
  where
    anything : (t : List ℕ) → Starts (is (only 10)) t → Starts (λ b. true) t
    anything [] x = x
    anything (b ∷ t) x = refl

whole_exact : (k : ℕ) → Exact 1 (Whole k) Done (whole_r k)
unfolding whole_r
whole_exact k =
    weaken
    1
    Done
    (omega arith)
    (within_same Done)
    (seq_exact
    head_ll.exact
    (λ _. seq_fits (root_exact k) blanks_exact blanks_fit)
    (λ cs at s v at' t x g z. starts_none root_first (only 35) s refl ((root_opens k).opens at s x.value x.middle x.rest x.first) z))

whole_more : (k j : ℕ) → k < j → OneMore (whole_r k) (whole_r (suc k)) (whole_r j)
unfolding whole_r
whole_more k j l = seq_more (calm head_ll) λ _. seq_more (root_more k j l) λ v. calm (blanks_ll v)

-- THE VERDICT IS EXACT
pub exact : (k : ℕ) (s : List ℕ) → Verdict (Document k) 0 s (verdict k s)
unfolding Document verdict
exact k s = (whole_exact k).run End end_r end_begins (fits_bar (λ v at t w x y. closed x y)) 0 s (λ v at s' l. end_verdict v at s')
  where
    closed : {v : Tree} {at : ℕ} {t : List ℕ} {w : Tree} → End v at t w → Starts (λ b. true) t → ⊥
    closed end y = y

-- ONE CONTAINER MORE IS ENOUGH
pub family : Family Document verdict
unfolding Document verdict
family =
    record {
      exact = exact;
      rises = λ k u b. sub_begins End 0 u (whole_sub k) b;
      climbs = λ k j s l. finish_more end_r end_onward (whole_r k 0 s) (whole_r (suc k) 0 s) (whole_r j 0 s) ((whole_more k j l).climbs 0 s);
    }

-- A DOCUMENT HAS ONE TREE
pub one_tree : (k : ℕ) (s : List ℕ) (t u : Tree) → Document k s t → Document k s u → t ≡ u
one_tree k s t u x y = go (exact k s)
  where
    go : {f : Res Tree} → Verdict (Document k) 0 s f → t ≡ u
    go (takes w z h) = h t x ∙ sym (h u y)
    go (stops p v z) = absurd (z t x)
