-- WHERE REFUSALS STAND: `earliest`, `no_longer`, `final` and `cut_off` of document 01's demand 3, said of any reader that meets the promise. Assumes what Unique does.
use Rattle.std.specs.Prelude.{◌≡◌, refl, List, ◌++◌, ℕ, suc, ◌≤◌, ◌<◌, length, take}
use Rattle.std.proofs.Common.{sym, ap, ◌∙◌, arith, length-take, take-take, length-take-le}
use Rattle.std.proofs.Math.Seq.{take-length}
use Rattle.language.specs.Tree.{Tree}
use Rattle.language.specs.Document.{Document}
use Rattle.language.specs.Answered.{limit, deepest, CHAR, DEEP, END, Viable, Stops, char, syntax, deep, end, Answered, accepted, long, stopped, repeated, rows, bytes}
use Rattle.promise.specs.Unique.{Known, one_answer}

module _ {doc table text : List ℕ} where
  -- a number from CHAR to END is given where the document stops
  pub stop_at : {n p s : ℕ} {table' text' : List ℕ} → CHAR ≤ n → n ≤ END → Answered doc table text n p s table' text' → Stops doc n p
  stop_at l h (accepted t x i k) = absurd (omega arith)
  stop_at l h (long k) = absurd (omega arith)
  stop_at l h (stopped m q k x) = x
  stop_at l h (repeated t q k x r m) = absurd (omega arith)
  stop_at l h (rows t x k) = absurd (omega arith)
  stop_at l h (bytes t x k i) = absurd (omega arith)

  -- EARLIEST: "the bytes before it begin some document"
  pub earliest : {n p s : ℕ} {table' text' : List ℕ} → CHAR ≤ n → n ≤ END → Answered doc table text n p s table' text' → Viable (take p doc)
  earliest l h x = go (stop_at l h x)
    where
      go : {m q : ℕ} → Stops doc m q → Viable (take q doc)
      go (char q k b d) = b
      go (syntax q k b d a) = b
      go (deep q j k b d y) = b
      go (end b z) = rw (take-length doc) b

  -- NO LONGER: no document of any length begins with the bytes through it
  pub no_longer : Known → {n p s : ℕ} {table' text' : List ℕ} → CHAR ≤ n → n ≤ DEEP → Answered doc table text n p s table' text'
      → (p < length doc) × ((rest : List ℕ) (t : Tree) → Document deepest (take (suc p) doc ++ rest) t → ⊥)
  no_longer κ l h x = go h (stop_at l (omega arith) x)
    where
      go : {m q : ℕ} → m ≤ DEEP → Stops doc m q → (q < length doc) × ((rest : List ℕ) (t : Tree) → Document deepest (take (suc q) doc ++ rest) t → ⊥)
      go i (char q k b d) = (k, λ rest t y. d (κ.allowed deepest (take (suc q) doc) (record { more = rest; value = t; word = y })))
      go i (syntax q k b d a) = (k, λ rest t y. d deepest (record { more = rest; value = t; word = y }))
      go i (deep q j k b d z) = (k, λ rest t y. d (record { more = rest; value = t; word = y }))
      go i (end b z) = absurd (omega arith)

  -- CUT OFF: "all bytes begin a document but are none", and the place is the length
  pub cut_off : {p s : ℕ} {table' text' : List ℕ} → Answered doc table text END p s table' text'
      → (p ≡ length doc) × Viable doc × ((t : Tree) → Document deepest doc t → ⊥)
  cut_off x = go refl (stop_at (omega arith) (omega arith) x)
    where
      go : {m q : ℕ} → m ≡ END → Stops doc m q → (q ≡ length doc) × Viable doc × ((t : Tree) → Document deepest doc t → ⊥)
      go e (char q k b d) = absurd (omega arith)
      go e (syntax q k b d a) = absurd (omega arith)
      go e (deep q j k b d y) = absurd (omega arith)
      go e (end b z) = (refl, b, z)

-- the bytes through p are all that a stop before the end goes by
module _ (doc doc' : List ℕ) where
  shorter : (p : ℕ) → take (suc p) doc ≡ take (suc p) doc' → take p doc ≡ take p doc'
  shorter p e = sym (take-take p (suc p) doc (omega arith)) ∙ (ap (take p) e ∙ take-take p (suc p) doc' (omega arith))

  as_long : (p : ℕ) → take (suc p) doc ≡ take (suc p) doc' → p < length doc → p < length doc'
  as_long p e h = omega (arith, ap length e, length-take-le (suc p) doc h, length-take (suc p) doc')

  stops_alike : {n p : ℕ} → n ≤ DEEP → Stops doc n p → take (suc p) doc ≡ take (suc p) doc' → Stops doc' n p
  stops_alike h (char p l b d) e = char p (as_long p e l) (rw (sym (shorter p e)) b) (λ x. d (rw e x))
  stops_alike h (syntax p l b d a) e = syntax p (as_long p e l) (rw (sym (shorter p e)) b) (λ k x. d k (rw e x)) (rw (sym e) a)
  stops_alike h (deep p k l b d x) e = deep p k (as_long p e l) (rw (sym (shorter p e)) b) (λ y. d (rw e y)) (rw (sym e) x)
  stops_alike h (end b z) e = absurd (omega arith)

  -- FINAL: "every document that agrees up to and including it is refused there too", with the same number, whatever the rooms
  pub final : Known → {table text table' text' table₂ text₂ table₃ text₃ : List ℕ} {n p s n₂ p₂ s₂ : ℕ} → CHAR ≤ n → n ≤ DEEP → Answered doc table text n p s table' text'
      → take (suc p) doc ≡ take (suc p) doc' → length doc' ≤ limit → Answered doc' table₂ text₂ n₂ p₂ s₂ table₃ text₃ → (n₂ ≡ n) × (p₂ ≡ p)
  final κ l h x e small y =
      let z = one_answer κ y (stopped _ _ small (stops_alike h (stop_at l (omega arith) x) e)) in
      (z.0, z.1)
