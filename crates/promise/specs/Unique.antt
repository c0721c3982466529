-- THE PROMISE ADMITS ONE ANSWER ONLY (`one_answer`, `one_total`), if a document has one tree and is made of allowed characters. Assumes nothing else.
use Rattle.std.specs.Prelude.{◌≡◌, refl, List, [], ◌∷◌, ◌++◌, Bool, true, false, ℕ, zero, suc, ◌+◌, ◌-◌, ◌*◌, ◌≤◌, ◌<◌, length, take, drop, eqb, ltb, Ok, Err}
use Rattle.std.proofs.Common.{sym, ap, subst, ◌∙◌, arith, take_all, take-take}
use Rattle.std.proofs.Math.Decide.{dec_le}
use Rattle.std.proofs.Math.Seq.{take-length}
use borrow.Author.Tests.{lt-ltb, le-ltb}
use Rattle.notation.specs.Class.{pick}
use Rattle.notation.specs.Lang.{Begins}
use Rattle.exact.specs.Verdict.{Far, less, whole}
use Rattle.language.specs.declared.Refusal.TheVariants.{Long, Char, Syntax, Deep, End, Repeat, Rows, Text}
use Rattle.language.specs.Tree.{Tree, width, size, text_of, escapes_of, rows_of, Repeats}
use Rattle.language.specs.Characters.{Allowed}
use Rattle.language.specs.Document.{Document}
use Rattle.language.specs.Lines.{lines_of}
use Rattle.language.specs.Lent.{words_in, bytes_in}
use Rattle.language.specs.Answered.{limit, deepest, LONG, CHAR, SYNTAX, DEEP, END, REPEAT, ROWS, TEXT, Answer, number, value, second, third, Viable, Stops, char, syntax, deep, end, Reads, Answered, accepted, long, stopped, repeated, rows, bytes, Totals, total, untold}

-- WHAT IS TAKEN FROM THE READERS: a document has one tree, and is a sequence of allowed characters
pub record Known : Type 0 where
  pub one_tree : (k : ℕ) (doc : List ℕ) (t u : Tree) → Document k doc t → Document k doc u → t ≡ u
  pub allowed : (k : ℕ) (u : List ℕ) → Begins (Document k) u → Begins Allowed u

module _ (κ : Known) where
  -- the longest prefix that begins a document is one
  pub far_unique : (k : ℕ) (doc : List ℕ) (p q : ℕ) → Far (Document k) 0 doc p → Far (Document k) 0 doc q → p ≡ q
  far_unique k doc p q f g = go (dec_le (suc f.n) g.n) (dec_le (suc g.n) f.n)
    where
      go : Dec (suc f.n ≤ g.n) → Dec (suc g.n ≤ f.n) → p ≡ q
      go (yes h) e = absurd (f.dead (omega (arith, g.within)) (less (suc f.n) g.n doc h g.viable))
      go (no h) (yes e) = absurd (g.dead (omega (arith, f.within)) (less (suc g.n) f.n doc e f.viable))
      go (no h) (no e) = omega (arith, f.here, g.here)

  stops_far : (doc : List ℕ) (n p : ℕ) → Stops doc n p → Far (Document deepest) 0 doc p
  stops_far doc _ _ (char p l b d) =
      record { n = p; here = omega arith; within = omega arith; viable = b; dead = λ h x. d (κ.allowed deepest (take (suc p) doc) x) }
  stops_far doc _ _ (syntax p l b d a) = record { n = p; here = omega arith; within = omega arith; viable = b; dead = λ h. d deepest }
  stops_far doc _ _ (deep p k l b d x) = record { n = p; here = omega arith; within = omega arith; viable = b; dead = λ h. d }
  stops_far doc _ _ (end b z) =
      record { n = length doc; here = omega arith; within = omega arith; viable = rw (take-length doc) b; dead = λ h x. omega arith }

  stops_none : (doc : List ℕ) (n p : ℕ) → Stops doc n p → (t : Tree) → Document deepest doc t → ⊥
  stops_none doc _ _ (char p l b d) t x = d (κ.allowed deepest (take (suc p) doc) (whole (suc p) doc t x))
  stops_none doc _ _ (syntax p l b d a) t x = d deepest (whole (suc p) doc t x)
  stops_none doc _ _ (deep p k l b d y) t x = d (whole (suc p) doc t x)
  stops_none doc _ _ (end b z) t x = z t x

  number_unique : (doc : List ℕ) (n p m q : ℕ) → Stops doc n p → Stops doc m q → p ≡ q → n ≡ m
  number_unique doc _ _ _ _ (char p l b d) (char q l' b' d') e = refl
  number_unique doc _ _ _ _ (char p l b d) (syntax q l' b' d' a) e = absurd (d (rw e a))
  number_unique doc _ _ _ _ (char p l b d) (deep q k l' b' d' x) e = absurd (d (κ.allowed k (take (suc p) doc) (rw e x)))
  number_unique doc _ _ _ _ (char p l b d) (end b' z) e = absurd (omega arith)
  number_unique doc _ _ _ _ (syntax p l b d a) (char q l' b' d') e = absurd (d' (rw (sym e) a))
  number_unique doc _ _ _ _ (syntax p l b d a) (syntax q l' b' d' a') e = refl
  number_unique doc _ _ _ _ (syntax p l b d a) (deep q k l' b' d' x) e = absurd (d k (rw e x))
  number_unique doc _ _ _ _ (syntax p l b d a) (end b' z) e = absurd (omega arith)
  number_unique doc _ _ _ _ (deep p k l b d x) (char q l' b' d') e = absurd (d' (κ.allowed k (take (suc q) doc) (rw (sym e) x)))
  number_unique doc _ _ _ _ (deep p k l b d x) (syntax q l' b' d' a) e = absurd (d' k (rw (sym e) x))
  number_unique doc _ _ _ _ (deep p k l b d x) (deep q k' l' b' d' x') e = refl
  number_unique doc _ _ _ _ (deep p k l b d x) (end b' z) e = absurd (omega arith)
  number_unique doc _ _ _ _ (end b z) (char q l' b' d') e = absurd (omega arith)
  number_unique doc _ _ _ _ (end b z) (syntax q l' b' d' a) e = absurd (omega arith)
  number_unique doc _ _ _ _ (end b z) (deep q k l' b' d' x) e = absurd (omega arith)
  number_unique doc _ _ _ _ (end b z) (end b' z') e = refl

  pub stops_unique : (doc : List ℕ) (n p m q : ℕ) → Stops doc n p → Stops doc m q → (n ≡ m) × (p ≡ q)
  stops_unique doc n p m q x y =
      let e = far_unique deepest doc p q (stops_far doc n p x) (stops_far doc m q y) in
      (number_unique doc n p m q x y e, e)

  -- WHAT THE ANSWER GOES BY: the document is too long, or stops, or has a tree, with or without a repeated key
  data Report : Type 0 where
    too_long : Report
    stops_at : ℕ → ℕ → Report
    repeats_at : ℕ → Report
    has_tree : Tree → Report

  data Reports (doc : List ℕ) : Report → Type 0 where
    is_long : limit < length doc → Reports doc too_long
    is_stop : (n p : ℕ) → length doc ≤ limit → Stops doc n p → Reports doc (stops_at n p)
    is_repeat : (t : Tree) (p : ℕ) → length doc ≤ limit → Document deepest doc t → Repeats p t → ((q : ℕ) → Repeats q t → p ≤ q) → Reports doc (repeats_at p)
    is_tree : (t : Tree) → Reads doc t → Reports doc (has_tree t)

  same_tree : (doc : List ℕ) (t u : Tree) → Document deepest doc t → Document deepest doc u → t ≡ u
  same_tree doc t u x y = κ.one_tree deepest doc t u x y

  same_repeat : (doc : List ℕ) (t u : Tree) (p q : ℕ) → Document deepest doc t → Document deepest doc u → Repeats p t → ((i : ℕ) → Repeats i t → p ≤ i)
      → Repeats q u → ((i : ℕ) → Repeats i u → q ≤ i) → p ≡ q
  same_repeat doc t u p q x y r l r' l' =
      let e = same_tree doc t u x y in
      let a : p ≤ q = l q (rw e r') in
      let b : q ≤ p = l' p (rw (← e) r) in
      omega arith

  reports_unique : (doc : List ℕ) (r s : Report) → Reports doc r → Reports doc s → r ≡ s
  reports_unique doc _ _ (is_long l) (is_long k) = refl
  reports_unique doc _ _ (is_long l) (is_stop n p k x) = absurd (omega arith)
  reports_unique doc _ _ (is_long l) (is_repeat t p k x r m) = absurd (omega arith)
  reports_unique doc _ _ (is_long l) (is_tree t x) = absurd (omega (arith, x.short))
  reports_unique doc _ _ (is_stop n p l x) (is_long k) = absurd (omega arith)
  reports_unique doc _ _ (is_stop n p l x) (is_stop m q k y) = let e = stops_unique doc n p m q x y in rw (e.0, e.1) refl
  reports_unique doc _ _ (is_stop n p l x) (is_repeat t q k y r m) = absurd (stops_none doc n p x t y)
  reports_unique doc _ _ (is_stop n p l x) (is_tree t y) = absurd (stops_none doc n p x t y.word)
  reports_unique doc _ _ (is_repeat t p l x r m) (is_long k) = absurd (omega arith)
  reports_unique doc _ _ (is_repeat t p l x r m) (is_stop n q k y) = absurd (stops_none doc n q y t x)
  reports_unique doc _ _ (is_repeat t p l x r m) (is_repeat u q k y r' m') = ap repeats_at (same_repeat doc t u p q x y r m r' m')
  reports_unique doc _ _ (is_repeat t p l x r m) (is_tree u y) = absurd (y.once p (rw (← same_tree doc t u x y.word) r))
  reports_unique doc _ _ (is_tree t x) (is_long k) = absurd (omega (arith, x.short))
  reports_unique doc _ _ (is_tree t x) (is_stop m q k y) = absurd (stops_none doc m q y t x.word)
  reports_unique doc _ _ (is_tree t x) (is_repeat u p k y r m) = absurd (x.once p (rw (same_tree doc t u x.word y) r))
  reports_unique doc _ _ (is_tree t x) (is_tree u y) = ap has_tree (same_tree doc t u x.word y.word)

  -- what is answered, and the rooms afterwards
  record Outcome : Type 0 where
    counted : ℕ
    valued : ℕ
    other : ℕ
    table_after : List ℕ
    text_after : List ℕ

  kept : List ℕ → List ℕ → ℕ → ℕ → Outcome
  kept table text n p = record { counted = n; valued = p; other = 0; table_after = table; text_after = text }

  outcome : List ℕ → List ℕ → List ℕ → Report → Outcome
  outcome doc table text too_long = kept table text LONG 0
  outcome doc table text (stops_at n p) = kept table text n p
  outcome doc table text (repeats_at p) = kept table text REPEAT p
  outcome doc table text (has_tree t) =
      pick (ltb (words_in table) (width * size t)) (kept table text ROWS (size t))
      (pick (ltb (bytes_in text) (length (text_of t))) (kept table text TEXT (length (text_of t)))
      (record {
        counted = 0;
        valued = size t;
        other = length (text_of t);
        table_after = rows_of (lines_of doc) 0 0 0 t ++ drop (width * size t) table;
        text_after = text_of t ++ drop (length (text_of t)) text;
      }))

  module _ {doc table text : List ℕ} where
    report : {n v s : ℕ} {table' text' : List ℕ} → Answered doc table text n v s table' text'
        → (r : Report) × Reports doc r × (record { counted = n; valued = v; other = s; table_after = table'; text_after = text' } ≡ outcome doc table text r)
    unfolding outcome kept
    report (accepted t x h k) = (has_tree t, is_tree t x, rw (le-ltb (words_in table) (width * size t) h, le-ltb (bytes_in text) (length (text_of t)) k) refl)
    report (long l) = (too_long, is_long l, refl)
    report (stopped n p l x) = (stops_at n p, is_stop n p l x, refl)
    report (repeated t p l x r m) = (repeats_at p, is_repeat t p l x r m, refl)
    report (rows t x h) = (has_tree t, is_tree t x, rw (lt-ltb (words_in table) (width * size t) h) refl)
    report (bytes t x h k) = (has_tree t, is_tree t x, rw (le-ltb (words_in table) (width * size t) h, lt-ltb (bytes_in text) (length (text_of t)) k) refl)

    -- ONE ANSWER ONLY, whatever the document and the rooms
    pub one_answer : {n v s n₂ v₂ s₂ : ℕ} {table' text' table'' text'' : List ℕ} → Answered doc table text n v s table' text' → Answered doc table text n₂ v₂ s₂ table'' text''
        → (n ≡ n₂) × (v ≡ v₂) × (s ≡ s₂) × (table' ≡ table'') × (text' ≡ text'')
    one_answer {n} {v} {s} {n₂} {v₂} {s₂} {table'} {text'} {table''} {text''} x y =
        let a = report x in
        let b = report y in
        let e : ◌≡◌ {A = Outcome} (record { counted = n; valued = v; other = s; table_after = table'; text_after = text' }) (record { counted = n₂; valued = v₂; other = s₂; table_after = table''; text_after = text'' }) =
        a.2 ∙ (ap (outcome doc table text) (reports_unique doc a.0 b.0 a.1 b.1) ∙ sym b.2) in (
          ap (λ (o : Outcome). o.counted) e,
          ap (λ (o : Outcome). o.valued) e,
          ap (λ (o : Outcome). o.other) e,
          ap (λ (o : Outcome). o.table_after) e,
          ap (λ (o : Outcome). o.text_after) e,
        )

  -- ONE TOTAL ONLY beside a number: an acceptance has the escapes of the document's one tree, a refusal none
  pub one_total : {doc : List ℕ} {n z z₂ : ℕ} → Totals doc n z → Totals doc n z₂ → z ≡ z₂
  one_total {doc} (total t x) (total u y) = ap escapes_of (same_tree doc t u x.word y.word)
  one_total (total t x) (untold n h) = absurd (omega arith)
  one_total (untold n h) (total t x) = absurd (omega arith)
  one_total (untold n h) (untold m k) = refl

-- THE CASE of an answer is told by its number and its values
answer_of : ℕ → ℕ → ℕ → ℕ → Answer
answer_of n v s z =
    pick (eqb n LONG) (Err Long)
    (pick (eqb n CHAR) (Err (Char (record { 0 = v })))
    (pick (eqb n SYNTAX) (Err (Syntax (record { 0 = v })))
    (pick (eqb n DEEP) (Err (Deep (record { 0 = v })))
    (pick (eqb n END) (Err (End (record { 0 = v })))
    (pick (eqb n REPEAT) (Err (Repeat (record { 0 = v })))
    (pick (eqb n ROWS) (Err (Rows (record { 0 = v })))
    (pick (eqb n TEXT) (Err (Text v))
    (Ok (record { rows = record { 0 = v }; text = s; escapes = z })))))))))

is_answer : (a : Answer) → answer_of (number a) (value a) (second a) (third a) ≡ a
unfolding answer_of
is_answer (Ok x) = refl
is_answer (Err Long) = refl
is_answer (Err (Char p)) = refl
is_answer (Err (Syntax p)) = refl
is_answer (Err (Deep p)) = refl
is_answer (Err (End p)) = refl
is_answer (Err (Repeat p)) = refl
is_answer (Err (Rows n)) = refl
is_answer (Err (Text m)) = refl

pub answer_tells : (a b : Answer) → number a ≡ number b → value a ≡ value b → second a ≡ second b → third a ≡ third b → a ≡ b
answer_tells a b n v s z = sym (is_answer a) ∙ (rw (n, v, s, z) refl ∙ is_answer b)

-- ONE ANSWER as `read` has it
pub one_read : Known → (doc table text : List ℕ) (a b : Answer) (table' text' table'' text'' : List ℕ)
    → Answered doc table text (number a) (value a) (second a) table' text' → Totals doc (number a) (third a)
    → Answered doc table text (number b) (value b) (second b) table'' text'' → Totals doc (number b) (third b)
    → (a ≡ b) × (table' ≡ table'') × (text' ≡ text'')
one_read κ doc table text a b table' text' table'' text'' x z y w =
    let e = one_answer κ x y in
    (answer_tells a b e.0 e.1 e.2 (one_total κ z (rw e.0 w)), e.3, e.4)
