-- BEHIND A KEY'S COLON: a space and a value, or an optional line comment, LF and what is nested. The first space is shared, and the next byte decides. Exact. Assumes nothing.
use Rattle.std.specs.Prelude.{◌≡◌, refl, List, [], true, ℕ}
use Rattle.notation.specs.Lang.{◌>>◌}
use Rattle.language.specs.Tree.{Tree}
use Rattle.language.specs.Characters.{Space, Feed, Comment, Option, LineComment}
use Rattle.exact.specs.Class.{Class, is, apart, only}
use Rattle.exact.specs.Out.{Reader}
use Rattle.exact.specs.Lang.{Lang, Follow, Exact, Ret, byte_r, ret}
use Rattle.exact.specs.Comb.{seq_r, Alt, alt_r, exact_iff, one, two}
use Rattle.exact.specs.Ll.{byte₁}
use Rattle.exact.specs.Grow.{Sub, sub_refl, seq_sub, alt_sub}
use Rattle.exact.specs.More.{OneMore, calm, seq_more, alt_more}
use Rattle.characters.specs.Comments.{comment_r, comment_ll}
use Rattle.blocks.specs.First.{Opens, byte_opens, seq_opens, byte_then, first_exact}

abbrev pub Rest : Lang Tree → Lang Tree → Lang Tree
Rest A N = Alt (Space >> A) (Option LineComment >> (Feed >> N))

-- the same with the first space read once
abbrev pub Shared : Lang Tree → Lang Tree → Lang Tree
Shared A N = Alt (Space >> Alt (Space >> (Comment >> (Feed >> N))) A) (Feed >> N)

ret_on : {X Y : Type 0} {v : X} {at : ℕ} {s : List ℕ} {x : X} {at' : ℕ} {s' : List ℕ} (A : Lang Y) {y : Y} {a : ℕ} {t : List ℕ} → Ret v at s x at' s' → A at' s' y a t → A at s y a t
ret_on A ret z = z

module _ (A N : Lang Tree) where
  pub to : (at : ℕ) (s : List ℕ) (v : Tree) (at' : ℕ) (t : List ℕ) → Shared A N at s v at' t → Rest A N at s v at' t
  to at s v at' t (two x) = two (record { value = []; middle = at; rest = s; first = two ret; second = x })
  to at s v at' t (one x) = go x.second
    where
      go : Alt (Space >> (Comment >> (Feed >> N))) A x.middle x.rest v at' t → Rest A N at s v at' t
      go (two y) = one (record { value = x.value; middle = x.middle; rest = x.rest; first = x.first; second = y })
      go (one y) =
          two
          (record {
            value = y.second.value;
            middle = y.second.middle;
            rest = y.second.rest;
            first =
                one
                (record {
                  value = 0;
                  middle = y.middle;
                  rest = y.rest;
                  first =
                      record {
                        value = x.value;
                        middle = x.middle;
                        rest = x.rest;
                        first = x.first;
                        second = record { value = y.value; middle = y.middle; rest = y.rest; first = y.first; second = ret };
                      };
                  second = y.second.first;
                });
            second = y.second.second;
          })

  pub from : (at : ℕ) (s : List ℕ) (v : Tree) (at' : ℕ) (t : List ℕ) → Rest A N at s v at' t → Shared A N at s v at' t
  from at s v at' t (one x) = one (record { value = x.value; middle = x.middle; rest = x.rest; first = x.first; second = two x.second })
  from at s v at' t (two x) = go x.first x.second
    where
      go : {c : List ℕ} {m : ℕ} {r : List ℕ} → Option LineComment at s c m r → (Feed >> N) m r v at' t → Shared A N at s v at' t
      go (two e) y = two (ret_on (Feed >> N) e y)
      go {c} {m} {r} (one l) y =
          let w = l.first in
          one
          (record {
            value = w.value;
            middle = w.middle;
            rest = w.rest;
            first = w.first;
            second =
                one
                (record {
                  value = w.second.value;
                  middle = w.second.middle;
                  rest = w.second.rest;
                  first = w.second.first;
                  second = record { value = c; middle = m; rest = r; first = ret_on Comment w.second.second l.second; second = y };
                });
          })

abbrev pub below_r : Reader Tree → Reader Tree
below_r nR = seq_r (byte_r (is (only 10))) λ _. nR

unfoldable pub rest_r : Reader Tree → Reader Tree → Reader Tree
rest_r vR nR =
    alt_r
    (is (only 32))
    (seq_r (byte_r (is (only 32))) λ _. alt_r (is (only 32)) (seq_r (byte_r (is (only 32))) λ _. seq_r comment_r λ _. below_r nR) vR)
    (below_r nR)

pub rest_more : {v₀ v₁ v₂ n₀ n₁ n₂ : Reader Tree} → OneMore v₀ v₁ v₂ → OneMore n₀ n₁ n₂ → OneMore (rest_r v₀ n₀) (rest_r v₁ n₁) (rest_r v₂ n₂)
unfolding rest_r
rest_more {n₀ = n₀} {n₁} {n₂} v n =
    alt_more
    (is (only 32))
    (seq_more (calm (byte₁ 32)) λ _. alt_more (is (only 32)) (seq_more (calm (byte₁ 32)) λ _. seq_more (calm comment_ll) λ _. below) v)
    below
  where
    below : OneMore (below_r n₀) (below_r n₁) (below_r n₂)
    below = seq_more (calm (byte₁ 10)) λ _. n

pub rest_sub : {A A' N N' : Lang Tree} → Sub A A' → Sub N N' → Sub (Rest A N) (Rest A' N')
rest_sub v n = alt_sub (seq_sub (sub_refl _) λ _. v) (seq_sub (sub_refl _) λ _. seq_sub (sub_refl _) λ _. n)
