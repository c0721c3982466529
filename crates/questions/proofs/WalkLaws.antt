-- Laws of the walk over an object's pairs. Assumes nothing.
use Rattle.std.proofs.Common.{◌≡◌, ℕ, ◌+◌, ◌≤◌, ◌<◌, true, false, List, eqb, Ok, Err, sym, ◌∙◌, lt-ltb, le-ltb, le-leb}
use Rattle.std.specs.Result.{IsErr}
use Rattle.std.specs.Cmp.Lexicographic.{pointwise}
use Rattle.std.proofs.lemmas.Bool.{lt-leb, false≢true}
use Rattle.std.proofs.lemmas.Slice.Eq.{bytes_eq-Decides}
use Rattle.language.specs.Kind.{OBJECT}
use Rattle.questions.specs.Table.{kind, next, good}
use Rattle.questions.specs.Text.{part}
use Rattle.questions.specs.Walk.{Reply, Found, found_reply, answer, refusal, paired, onward, object, Walk, ends, breaks, matches, strays, goes, Finds, refused, walked}
use Rattle.questions.specs.Number.{BADROW, NONE}

-- a walk from `from` has come to `at`: what answers there answers the whole
pub record Reached (table : List ℕ) (R : ℕ) (room key : List ℕ) (stop from at : ℕ) : Type 0 where
  pub back : (reply : Reply) → Walk table R room key stop at reply → Walk table R room key stop from reply

module _ (table : List ℕ) (R : ℕ) (room key : List ℕ) (stop from : ℕ) (at : ℕ) (come : Reached table R room key stop from at) where
  pub walk_ends : stop ≤ at → Walk table R room key stop from (refusal NONE)
  walk_ends h = come.back _ (ends h)

  module _ (in-object : at < stop) where
    pub walk_breaks : (x : Found) → IsErr x → paired table R room at ≡ false → Walk table R room key stop from (found_reply x)
    walk_breaks (Ok f) h n = cc
    walk_breaks (Err e) h n = come.back _ (breaks in-object n)

    module _ (name : List ℕ) (pair : (paired table R room at ≡ true) × (name ≡ part table room at)) where
      pub walk_found : pointwise eqb name key ≡ true → Walk table R room key stop from (answer (at + 1))
      walk_found h = come.back _ (matches in-object pair.0 (sym pair.1 ∙ (bytes_eq-Decides name key).0 h))

      module _ (other : pointwise eqb name key ≡ false) (n : ℕ) (word : n ≡ next table (at + 1)) where
        differ : part table room at ≡ key → ⊥
        differ e = false≢true (sym other ∙ (bytes_eq-Decides name key).1 (pair.1 ∙ e))

        pub walk_back : n ≤ at + 1 → Walk table R room key stop from (refusal BADROW)
        unfolding onward
        walk_back l = come.back _ (strays in-object pair.0 differ (simp (le-ltb (at + 1) (next table (at + 1)) (rw (← word) l))))

        pub walk_past : at + 1 < n → stop < n → Walk table R room key stop from (refusal BADROW)
        unfolding onward
        walk_past k l =
            come.back _
            (strays in-object pair.0 differ (simp (lt-ltb (at + 1) (next table (at + 1)) (rw (← word) k), lt-leb (next table (at + 1)) stop (rw (← word) l))))

        pub walk_goes : at + 1 < n → n ≤ stop → Reached table R room key stop from n
        unfolding onward
        walk_goes k l =
            let on : onward table stop (at + 1) ≡ true = simp (lt-ltb (at + 1) (next table (at + 1)) (rw (← word) k), le-leb (next table (at + 1)) stop (rw (← word) l)) in
            record { back = λ reply w. come.back reply (goes in-object pair.0 differ on (rw (← word) w)) }

-- ---- the object

module _ (table : List ℕ) (R : ℕ) (room key : List ℕ) (r : ℕ) where
  pub find_row : good table R r ≡ false → Finds table R room key r (refusal BADROW)
  unfolding object
  find_row n = refused (simp n)

  pub find_kind : good table R r ≡ true → eqb (kind table r) OBJECT ≡ false → Finds table R room key r (refusal BADROW)
  unfolding object
  find_kind y n = refused (simp (y, n))

  pub find_walk : good table R r ≡ true → eqb (kind table r) OBJECT ≡ true → (n : ℕ) → n ≡ next table r → (reply : Reply)
      → Walk table R room key n (r + 1) reply → Finds table R room key r reply
  unfolding object
  find_walk y z n word reply w = walked (simp (y, z)) (rw word at w)
