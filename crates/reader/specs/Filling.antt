-- HOW THE ANSWER FOLLOWS where a document was read into rooms of our own, whose rows may be too few. Assumes nothing.
use Rattle.std.specs.Prelude.{◌≡◌, refl, List, ℕ, ◌+◌, ◌-◌, ◌*◌, ◌/◌, ◌%◌, ◌≤◌, ◌<◌, length, get_or, replicate}
use Rattle.std.proofs.Common.{sym, subst, ◌∙◌, arith}
use Rattle.std.proofs.lemmas.List.{length-replicate}
use native.Mathlib.Nat.{mul-le-mul}
use Rattle.rooms.specs.declared.Cursor.{Cursor}
use Rattle.rooms.specs.Contract.{Ans}
use Rattle.std.specs.declared.result.Result.TheVariants.{Ok}
use Rattle.rooms.specs.Told.{spot, tally}
use Rattle.rooms.specs.Forest.{length_rows}
use Rattle.std.specs.Prelude.{Option}
use Rattle.std.specs.declared.option.Option.TheVariants.{None, Some}
use Rattle.language.specs.Tree.{unlined, width, text_of, rows_of}
use Rattle.language.specs.Answered.{Answer, limit, deepest, number, value, second, third, Answered, Totals}
use Rattle.spans.proofs.DocumentLaws.{few_rows, few_text}
use Rattle.notes.specs.Flat.{flat}
use Rattle.notes.specs.Notes.{Kept}
use Rattle.repeats.specs.Stands.{Stands, stands_sets}
use Rattle.places.specs.Places.{most_keys}
use Rattle.places.specs.Log.{windowed_plain, room_first, holds_whole}
use Rattle.answers.specs.Held.{Held}
use Rattle.judge.specs.Blamed.{Blamed}
use Rattle.judge.specs.Contract.{Known, Checked, Filled, Logged}
use Rattle.reader.specs.Judged.{accepts, answer_stop, stop_total}

-- the document is within the limit; no key is noted in the log; the text room of our own is large enough for any of so many bytes
pub record Texted (doc K R T : List ℕ) : Type 0 where
  pub words : ℕ
  pub keys : ℕ
  pub short : length doc ≤ limit
  pub empty : K ≡ replicate words 0
  pub halves : words ≡ 4 + 4 * keys
  pub some : 0 < keys
  pub small : keys + keys ≤ most_keys
  pub text_fits : length doc ≤ length T

pub texted : (doc : List ℕ) (keys words rows bytes : ℕ) → length doc ≤ limit → words ≡ 4 + 4 * keys → 0 < keys → keys + keys ≤ most_keys → length doc ≤ bytes
    → Texted doc (replicate words 0) (replicate rows 0) (replicate bytes 0)
texted doc keys words rows bytes l e p k h =
    record {
      words = words;
      keys = keys;
      short = l;
      empty = refl;
      halves = e;
      some = p;
      small = k;
      text_fits = omega (arith, length-replicate {A = ℕ} bytes 0);
    }

-- rooms with nothing in them
pub in_room : (doc : List ℕ) (log words bytes : ℕ) → length doc ≤ bytes → bytes ≤ limit → 4 < log → log ≤ 13124 → log % 4 ≡ 0 → Texted doc (replicate log 0) (replicate words 0) (replicate bytes 0)
in_room doc log words bytes h b l s m = texted doc ((log - 4) / 4) log words bytes (omega arith) (omega arith) (omega arith) (omega arith) h

-- the i-th of eight parts of a document has 64 bytes
pub part_inside : (n i : ℕ) → 512 ≤ n → i < 8 → i * (n / 8) + 64 ≤ n
part_inside n i l h = omega (arith, mul-le-mul {n₁ = i} {m₁ = n / 8} {n₂ = 7} {m₂ = n / 8} (omega arith) (omega arith))

-- n rows, m text bytes and z escapes were read into rooms of our own, which hold them if there are rows enough and no key was left out of the log
pub record Read (doc K R T : List ℕ) (n m z : ℕ) : Type 0 where
  pub few : n ≤ limit
  pub four : 3 < length K
  pub held : width * n ≤ length R → get_or K 3 0 ≡ 0 → Held doc K R T n m z

-- what an attempt gives: the answer, or none
abbrev pub Tried : Type 0
Tried = Option Answer

-- AN ATTEMPT: the answer; or the rows of our own are too few, and nothing lent is changed
unfoldable pub Attempted : List ℕ → List ℕ → List ℕ → Tried → List ℕ → List ℕ → Type 0
Attempted doc table text (Some a) table' text' = Answered doc table text (number a) (value a) (second a) table' text' × Totals doc (number a) (third a)
Attempted doc table text None table' text' = (table' ≡ table) × (text' ≡ text)

pub reads : (doc K K' R R' T T' : List ℕ) (a : Ans) (c : Cursor) (n m z : ℕ) → n ≡ c.row → m ≡ spot c.text → z ≡ tally c.text → Texted doc K R T → Checked deepest doc a → a ≡ Ok c → Filled deepest doc R R' T T'
    → Logged deepest doc K K' → length R' ≡ length R → length T' ≡ length T → Read doc K' R' T' n m z
unfolding Checked
reads doc K K' R R' T T' a c n m z r p q f x e w o u v =
    let g : Known deepest doc c = rw e at x in
    let t = g.tree in
    let d = accepts deepest doc t g.is in
    let y = w.filled t g.is in
    let s = length_rows unlined 0 0 0 t in
    let h = few_rows deepest doc t d in
    let k = few_text deepest doc t d in
    let l = f.short in
    let j = f.text_fits in
    let b = windowed_plain doc (replicate f.words 0) K' (flat 0 0 t) f.keys 0 f.keys 0 (room_first f.words f.keys f.halves) f.some f.small (omega arith) l
    (subst (λ (S : List ℕ). Kept doc 0 (flat 0 0 t) (length doc) S K') f.empty (o.logged t g.is)) in
    record {
      few = omega (arith, r, g.row);
      four = omega (arith, b.long);
      held = λ i w.
          record {
            log = record { tree = t; word = d; holds = holds_whole doc K' (flat 0 0 t) f.keys b w };
            short = l;
            row = r ∙ g.row;
            text_count = p ∙ g.text;
            escape_count = q ∙ g.escapes;
            few = i;
            fits = omega (arith, g.text);
            small = omega (arith, r, g.row, g.text);
            table_is = subst (λ (s : List ℕ). Stands s 0 (rows_of unlined 0 0 0 t)) (sym y.0) (stands_sets R 0 (rows_of unlined 0 0 0 t) (omega (arith, r, g.row)));
            text_is = subst (λ (s : List ℕ). Stands s 0 (text_of t)) (sym y.1) (stands_sets T 0 (text_of t) (omega arith));
          };
    }

pub read_holds : (doc K R T : List ℕ) (n m z : ℕ) → Read doc K R T n m z → width * n ≤ length R → (v : ℕ) → v ≡ get_or K 3 0 → v ≤ 0 → Held doc K R T n m z
read_holds doc K R T n m z f i v e l = f.held i (omega arith)

pub read_four : (doc K R T : List ℕ) (n m z : ℕ) → Read doc K R T n m z → 3 < length K
read_four doc K R T n m z f = f.four

module _ (doc table text : List ℕ) where
  pub attempt_stop : (a : Answer) → length doc ≤ limit → Blamed doc a → Attempted doc table text (Some a) table text
  unfolding Attempted
  attempt_stop a l x = (answer_stop doc table text a l x, stop_total doc a x)

  pub attempt_few : Attempted doc table text None table text
  unfolding Attempted
  attempt_few = (refl, refl)

  pub attempt_done : (a : Answer) (table' text' : List ℕ) → Answered doc table text (number a) (value a) (second a) table' text' → Totals doc (number a) (third a)
      → Attempted doc table text (Some a) table' text'
  unfolding Attempted
  attempt_done a table' text' x y = (x, y)

  module _ (r : Tried) (table' text' : List ℕ) (x : Attempted doc table text r table' text') where
    pub attempt_there : (a : Answer) → r ≡ Some a → Attempted doc table text (Some a) table' text'
    attempt_there a e = rw e at x

    -- the rooms lent are as they came, for the next rooms of our own
    pub attempt_again : (s : Tried) (table'' text'' : List ℕ) → r ≡ None → Attempted doc table' text' s table'' text'' → Attempted doc table text s table'' text''
    unfolding Attempted
    attempt_again s table'' text'' e y = let z : (table' ≡ table) × (text' ≡ text) = rw e at x in rw (z.0, z.1) at y

    pub tried_answer : (a : Answer) → r ≡ Some a → Answered doc table text (number a) (value a) (second a) table' text'
    unfolding Attempted
    tried_answer a e = (rw e at x).0

    pub tried_total : (a : Answer) → r ≡ Some a → Totals doc (number a) (third a)
    unfolding Attempted
    tried_total a e = (rw e at x).1

    -- .. and for a pass over the document
    pub tried_again : (a : Answer) (table'' text'' : List ℕ) → r ≡ None → Answered doc table' text' (number a) (value a) (second a) table'' text''
        → Answered doc table text (number a) (value a) (second a) table'' text''
    unfolding Attempted
    tried_again a table'' text'' e y = let z : (table' ≡ table) × (text' ≡ text) = rw e at x in rw (z.0, z.1) at y

-- the rooms lent came through a pass unchanged
pub attempt_same : (doc table table₁ table₂ text text₁ text₂ : List ℕ) (r : Tried) → (table₁ ≡ table) × (text₁ ≡ text) → Attempted doc table₁ text₁ r table₂ text₂ → Attempted doc table text r table₂ text₂
attempt_same doc table table₁ table₂ text text₁ text₂ r e x = rw (e.0, e.1) at x

pub attempt_stop_same : (doc table table₁ table₂ text text₁ text₂ : List ℕ) (a : Answer) → length doc ≤ limit → Blamed doc a → table₁ ≡ table → text₁ ≡ text → table₂ ≡ table₁ → text₂ ≡ text₁
    → Attempted doc table text (Some a) table₂ text₂
attempt_stop_same doc table table₁ table₂ text text₁ text₂ a l x e f g h = rw (g ∙ e, h ∙ f) (attempt_stop doc table text a l x)
