-- WHAT THE VERDICT SAYS of a document: it is accepted with its tree, or the answer is where it stops; and one that is too long has no other answer. Assumes nothing.
use Rattle.std.specs.Prelude.{◌≡◌, List, ℕ, ◌≤◌, ◌<◌, length}
use Rattle.std.proofs.Common.{sym, ap, subst, ◌∙◌, arith}
use Rattle.exact.specs.Verdict.{Res, Verdict, acc, stop, takes, stops}
use Rattle.rooms.specs.Contract.{Ans}
use Rattle.std.specs.declared.result.Result.TheVariants.{Ok, Err}
use Rattle.language.specs.declared.Refusal.TheVariants.{Long, Char, Syntax, Deep, End, Repeat, Rows, Text}
use Rattle.language.specs.Tree.{Tree}
use Rattle.language.specs.Document.{Document}
use Rattle.language.specs.Answered.{Answer, limit, deepest, LONG, number, value, second, third, Stops, Answered, long, stopped, Totals, untold}
use Rattle.blocks.specs.Document.{verdict}
use Rattle.blocks.proofs.DocumentLaws.{exact}
use Rattle.judge.specs.Blamed.{Blamed}
use Rattle.judge.specs.Contract.{Checked}

-- what the verdict accepts is a document
pub accepts : (k : ℕ) (doc : List ℕ) (t : Tree) → verdict k doc ≡ acc t → Document k doc t
accepts k doc t e = go (verdict k doc) e (exact k doc)
  where
    go : (f : Res Tree) → f ≡ acc t → Verdict (Document k) 0 doc f → Document k doc t
    go _ h (takes w x u) = let z : w ≡ t = cc in subst (Document k doc) z x
    go _ h (stops p v z) = let y : ◌≡◌ {A = ℕ} 0 1 = cc in absurd (omega arith)

-- and a document is accepted
pub accepted : (k : ℕ) (doc : List ℕ) (t : Tree) → Document k doc t → verdict k doc ≡ acc t
accepted k doc t d = go (verdict k doc) (exact k doc)
  where
    go : (f : Res Tree) → Verdict (Document k) 0 doc f → f ≡ acc t
    go _ (takes w x u) = ap acc (sym (u t d))
    go _ (stops p v z) = absurd (z t d)

pub stopped_at : (doc : List ℕ) (a : Ans) (p : ℕ) → Checked deepest doc a → a ≡ Err p → verdict deepest doc ≡ stop p
unfolding Checked
stopped_at doc a p x e = rw e at x

pub answer_long : (doc table text : List ℕ) → limit < length doc → Answered doc table text LONG 0 0 table text
answer_long doc table text l = long l

pub answer_stop : (doc table text : List ℕ) (a : Answer) → length doc ≤ limit → Blamed doc a → Answered doc table text (number a) (value a) (second a) table text
answer_stop doc table text a l x = rw x.alone (stopped (number a) (value a) l x.stops)

-- a refusal has no escapes
pub no_total : (doc : List ℕ) (n : ℕ) → 0 < n → Totals doc n 0
no_total doc n h = untold n h

pub stop_total : (doc : List ℕ) (a : Answer) → Blamed doc a → Totals doc (number a) (third a)
stop_total doc (Ok a) x = absurd (never x.stops)
  where
    never : {p : ℕ} → Stops doc 0 p → ⊥
    never y = elim y [ ]
stop_total doc (Err Long) x = no_total doc 1 (omega arith)
stop_total doc (Err (Char p)) x = no_total doc 2 (omega arith)
stop_total doc (Err (Syntax p)) x = no_total doc 3 (omega arith)
stop_total doc (Err (Deep p)) x = no_total doc 4 (omega arith)
stop_total doc (Err (End p)) x = no_total doc 5 (omega arith)
stop_total doc (Err (Repeat p)) x = no_total doc 6 (omega arith)
stop_total doc (Err (Rows r)) x = no_total doc 7 (omega arith)
stop_total doc (Err (Text b)) x = no_total doc 8 (omega arith)

-- the rooms lent came through unchanged, and so the answer is for them as they were lent
pub answer_same : (doc table table₁ table₂ text text₁ text₂ : List ℕ) (n v s : ℕ) → (table₁ ≡ table) × (text₁ ≡ text) → Answered doc table₁ text₁ n v s table₂ text₂
    → Answered doc table text n v s table₂ text₂
answer_same doc table table₁ table₂ text text₁ text₂ n v s e x = rw (e.0, e.1) at x

pub answer_stop_same : (doc table table₁ table₂ text text₁ text₂ : List ℕ) (a : Answer) → length doc ≤ limit → Blamed doc a → table₁ ≡ table → text₁ ≡ text
    → table₂ ≡ table₁ → text₂ ≡ text₁ → Answered doc table text (number a) (value a) (second a) table₂ text₂
answer_stop_same doc table table₁ table₂ text text₁ text₂ a l x e f g h = rw (g ∙ e, h ∙ f) (answer_stop doc table text a l x)
