-- The text of a body, written a line at a time: laws as `search` takes them. Assumes nothing.
use mathlib.Core.Path.{◌≡◌, refl, sym, ap, subst, ◌∙◌}
use mathlib.Core.List.{List, [], ◌∷◌, ◌++◌, append_assoc}
use mathlib.Core.Logic.{◌⊎◌, inl, inr}
use Prim.Native.Nat.{ℕ, suc, ◌+◌, ◌-◌, ◌≤◌, ◌<◌, min, ◌^◌}
use native.Mathlib.Omega.{arith}
use native.Mathlib.Decide.{dec_le}
use lib.ListN.{length, set, length-append}
use lib.Seq.{sets, slice, length-slice}
use borrow.Author.Rules.{rules}
use Rattle.exact.specs.Place.{peek}
use Rattle.language.specs.BlockText.{Line, blank, line, hold, trim, lower, spaces, unlines, body_text, body_end}
use Rattle.language.specs.Answered.{limit}
use Rattle.rooms.specs.Told.{spot, word_is}
use Rattle.rooms.specs.Stores.{sets_append}
use Rattle.rooms.specs.declared.Cursor.{Cursor}
use Rattle.rooms.specs.Contract.{Ans}
use Rattle.std.specs.declared.result.Result.TheVariants.{Err, Ok}
use Rattle.rooms.specs.Contract.{columns, Takes, ample}
use Rattle.rooms.specs.Laws.{take_next, take_byte, take_place, take_other}
use Rattle.characters.specs.Runs.{Fed}
use Rattle.blocktext.specs.Spaces.{slice_front}
use Rattle.blocktext.specs.Placed.{Text, line_at, Placed, First, first, first_none, first_blank, first_text, lower_self, lower_le, trim_none, text_ahead, text_least, length_line}
use Rattle.blocktext.specs.Contract.{body_lines, Known, Stored, Laid, One, one_blank, one_text, Lined, LinePut}

-- ---- one line
spaced_first : {doc : List ℕ} {c a s e : ℕ} → Text doc c a s e → peek doc a ≡ 32
spaced_first {a = a} t = t.spaced a (omega arith) (omega (arith, t.deep))

same_feed : {doc : List ℕ} {c a s e : ℕ} (r : ℕ) → Text doc c a s e → Fed doc a r → r ≡ e
same_feed {doc} {c} {a} {s} {e} r t f = by (dec_le (suc r) e) (dec_le (suc e) r)
  where
    clear : (j : ℕ) → a ≤ j → j < e → peek doc j ≡ 10 → ⊥
    clear j l k z = go (dec_le (suc j) s)
      where
        go : Dec (suc j ≤ s) → ⊥
        go (yes h) = let y = t.spaced j l h in omega arith
        go (no h) = t.dry j (omega arith) k z

    by : Dec (suc r ≤ e) → Dec (suc e ≤ r) → r ≡ e
    by (yes h) d = absurd (clear r f.dried.from h (f.feed (omega (arith, t.inside))))
    by (no h) (yes k) = absurd (f.dried.dry e (omega (arith, t.deep, t.ahead)) k t.feed)
    by (no h) (no k) = omega arith

module _ (doc : List ℕ) (col m : ℕ) (n : Cursor) (a : Ans) (t : Takes doc n 10 a) (T : List ℕ) where
  pub put_blank : (n' : Cursor) → a ≡ Ok n' → (T' : List ℕ) → T' ≡ set T n.text 10 → LinePut doc col m n (record { at = n'.at; row = n'.row; text = n.text + 1 }) T T'
  put_blank n' y T' r = rw (take_next doc n 10 a t n' y) (record { at = at; stored = stored })
    where
      h : peek doc n.at ≡ 10
      h = sym (take_byte doc n 10 a t n' y)

      no : {s e : ℕ} → Text doc col n.at s e → ⊥
      no t = let y = spaced_first t in let k = h in omega arith

      at : (l : Line) (z : ℕ) → One doc col m n.at l z → n.at + 1 ≡ z
      at _ _ (one_blank x) = refl
      at _ _ (one_text t x) = absurd (no t)

      stored : (l : Line) (z : ℕ) → One doc col m n.at l z → Laid n.text (n.text + 1) (unlines m (l ∷ [])) T T'
      stored _ _ (one_blank _) = record { end = omega arith; room = r }
      stored _ _ (one_text t x) = absurd (no t)

  pub put_place : (p : ℕ) → a ≡ Err p → Lined doc col m n → p ≤ length doc
  put_place p y i = omega (arith, take_place doc n 10 a t p y, i.inside)

  module _ (p : ℕ) (y : a ≡ Err p) (e : ℕ) (fed : Fed doc p e) where
    place : p ≡ n.at
    place = take_place doc n 10 a t p y

    h : peek doc n.at ≡ 10 → ⊥
    h = take_other doc n 10 a t p y

    f : Fed doc n.at e
    f = subst (λ q. Fed doc q e) place fed

    pub put_fits : Lined doc col m n → p + col + 1 + m ≤ e
    put_fits y = rw place (go y.one)
      where
        go : {l : Line} {z : ℕ} → One doc col m n.at l z → n.at + col + 1 + m ≤ e
        go (one_blank x) = absurd (h x.feed)
        go (one_text {s} t x) = let q = same_feed e t f in omega (arith, t.deep, t.ahead)

    pub put_inside : e ≤ length doc
    put_inside = f.dried.inside

    put_from : (from : ℕ) → from ≡ p + col + 1 + m → (T₁ T' : List ℕ) → T₁ ≡ sets T n.text (slice from e doc) → T' ≡ set T₁ (n.text + (e - from)) 10
        → LinePut doc col m n (record { at = e + 1; row = n.row; text = n.text + (e - from) + 1 }) T T'
    put_from from o T₁ T' r r' = record { at = at; stored = stored }
      where
        q : from ≡ n.at + col + 1 + m
        q = o ∙ ap (λ i. i + col + 1 + m) place

        at : (l : Line) (z : ℕ) → One doc col m n.at l z → e + 1 ≡ z
        at _ _ (one_blank x) = absurd (h x.feed)
        at _ _ (one_text t x) = ap (◌+ 1) (same_feed e t f)

        go : {s d : ℕ} → Text doc col n.at s d → d ≡ e → m ≤ s - (n.at + suc col) → Laid n.text (n.text + (e - from) + 1) (unlines m (line_at doc col n.at s d ∷ [])) T T'
        go {s} {d} t z x =
            let i : from + (s - (n.at + suc col) - m) ≡ s = let y = t.deep in let k = q in omega arith in
            let w : slice from e doc ≡ spaces (s - (n.at + suc col) - m) ++ slice s e doc =
            slice_front doc (s - (n.at + suc col) - m) from s e i (omega (arith, t.ahead)) f.dried.inside (λ j l o. t.spaced j (omega arith) o) in
            let u : unlines m (line_at doc col n.at s d ∷ []) ≡ slice from e doc ++ 10 ∷ [] = ap (λ v. unlines m (line (s - (n.at + suc col)) (slice s v doc) v ∷ [])) z ∙ ap (◌++ 10 ∷ []) (sym w) in
            let len : length (slice from e doc) ≡ e - from = length-slice from e doc f.dried.inside in
            record {
              end = rw u (let y = length-append (slice from e doc) (10 ∷ []) in omega arith);
              room = rw u (r' ∙ (ap (λ l. set l (n.text + (e - from)) 10) r ∙ (ap (λ j. set (sets T n.text (slice from e doc)) (n.text + j) 10) (sym len) ∙ sym (sets_append T n.text (slice from e doc) (10 ∷ [])))));
            }

        stored : (l : Line) (z : ℕ) → One doc col m n.at l z → Laid n.text (n.text + (e - from) + 1) (unlines m (l ∷ [])) T T'
        stored _ _ (one_blank x) = absurd (h x.feed)
        stored _ _ (one_text t x) = go t (sym (same_feed e t f)) x

    pub put_text : (T₁ T' : List ℕ) → T₁ ≡ sets T n.text (slice (p + col + 1 + m) e doc) → T' ≡ set T₁ (n.text + (e - (p + col + 1 + m))) 10
        → LinePut doc col m n (record { at = e + 1; row = n.row; text = n.text + (e - (p + col + 1 + m)) + 1 }) T T'
    put_text T₁ T' r r' = put_from (p + col + 1 + m) refl T₁ T' r r'

-- the text word has room for a line
module _ (doc : List ℕ) (col m : ℕ) (n : Cursor) (i : Lined doc col m n) where
  small : n.text < ample
  small = omega (arith, i.small, i.inside, i.few)

  pub put_one : n.text + 1 < 2 ^ 64
  put_one = omega (arith, small)

  pub put_more : (e from : ℕ) → e ≤ length doc → n.text + (e - from) < 2 ^ 64
  put_more e from l = omega (arith, small, i.small)

  pub put_more_one : (e from : ℕ) → e ≤ length doc → n.text + (e - from) + 1 < 2 ^ 64
  put_more_one e from l = omega (arith, small, i.small)

pub ruleset putting_line = (put_blank, put_place, put_fits, put_inside, put_text, put_one, put_more, put_more_one, rules)

-- ---- the lines that are left: with them the text would be the goal, and end at stop
pub record Putting (doc : List ℕ) (col m last stop : ℕ) (goal : List ℕ) (n : Cursor) (T : List ℕ) : Type 0 where
  pub rest : List Line
  pub end : ℕ
  pub before : ℕ
  pub placed : Placed doc col n.at rest end
  pub passed : before < n.at
  pub ends : last ≡ body_end before rest
  pub lowest : lower m rest ≡ m
  pub store : goal ≡ sets T n.text (unlines m (trim rest))
  pub total : stop ≡ n.text + length (unlines m (trim rest))
  pub bound : m ≤ length doc
  pub small : length doc ≤ limit
  pub few : n.text ≤ n.at
  pub inside : n.at ≤ length doc
  pub low : col ≤ columns

pub put_first : (doc : List ℕ) (e col last least x from : ℕ) (T : List ℕ) → Known doc e col last least x → from ≡ spot x
    → Putting doc col least last (from + length (body_text (body_lines doc e col))) (sets T from (body_text (body_lines doc e col))) (record { at = e + 1; row = 0; text = from }) T
unfolding body_lines
put_first doc e col last least x from T k y =
    let d = k.body in
    let u : body_text (body_lines doc e col) ≡ unlines least (trim d.lines) =
    ap (λ o. body_text (Rattle.blocktext.specs.Contract.lines_of o)) d.is ∙ (text_least d.placed ∙ ap (λ q. unlines q (trim d.lines)) (sym d.lowest)) in
    record {
      rest = d.lines;
      end = k.at;
      before = e;
      placed = d.placed;
      passed = omega arith;
      ends = d.ends;
      lowest = ap (λ q. lower q d.lines) d.lowest ∙ (lower_self (length doc) d.lines ∙ sym d.lowest);
      store = ap (sets T from) u;
      total = ap (λ s. from + length s) u;
      bound = omega (arith, d.lowest, lower_le (length doc) d.lines);
      small = k.small;
      few = omega (arith, k.few);
      inside = omega (arith, k.inside);
      low = k.low;
    }

hold_some : (b last a : ℕ) (rs : List Line) → last ≡ body_end b rs → b < a → a < last → hold (trim rs) ≡ blank ∷ trim rs
hold_some b last a rs e l h = by (trim rs) refl
  where
    by : (us : List Line) → trim rs ≡ us → hold us ≡ blank ∷ us
    by [] z = absurd (omega (arith, trim_none b rs z))
    by (u ∷ us) z = refl

module _ (doc : List ℕ) (col m last stop : ℕ) (goal : List ℕ) (n : Cursor) (T : List ℕ) where
  least_text : (rs : List Line) (i : ℕ) → lower (min m i) rs ≡ m → (m ≤ i) × (lower m rs ≡ m)
  least_text rs i h =
      let k = lower_le (min m i) rs in
      let z : min m i ≡ m = omega arith in
      (omega arith, subst (λ q. lower q rs ≡ m) z h)

  pub put_lined : Putting doc col m last stop goal n T → n.at < last → Lined doc col m n
  unfolding body_end
  put_lined p l = go (first p.placed)
    where
      go : First doc col n.at p.end p.rest → Lined doc col m n
      go (first_none z) = let e = p.ends ∙ ap (body_end p.before) z in absurd (omega (arith, p.passed))
      go (first_blank rs z x q) = record { line = blank; end = n.at + 1; one = one_blank x; inside = x.inside; bound = p.bound; small = p.small; few = p.few; low = p.low }
      go (first_text s f rs z x q) =
          let h = sym (ap (lower m) z) ∙ p.lowest in
          record {
            line = line_at doc col n.at s f;
            end = f + 1;
            one = one_text x (least_text rs (s - (n.at + suc col)) h).0;
            inside = omega (arith, x.deep, x.ahead, x.inside);
            bound = p.bound;
            small = p.small;
            few = p.few;
            low = p.low;
          }

  module _ (p : Putting doc col m last stop goal n T) (l : n.at < last) (n' : Cursor) (T' : List ℕ) (w : LinePut doc col m n n' T T') where
    -- what one line more leaves
    next : (r : Line) (rs : List Line) (z b : ℕ) → One doc col m n.at r z → Placed doc col z rs p.end → b < z → last ≡ body_end b rs → lower m rs ≡ m
        → unlines m (trim p.rest) ≡ unlines m (r ∷ []) ++ unlines m (trim rs) → n.at + length (unlines m (r ∷ [])) ≤ z → z ≤ length doc → Putting doc col m last stop goal n' T'
    next r rs z b o q k e h u f i =
        let a = w.at r z o in
        let s = w.stored r z o in
        record {
          rest = rs;
          end = p.end;
          before = b;
          placed = subst (λ i. Placed doc col i rs p.end) (sym a) q;
          passed = omega arith;
          ends = e;
          lowest = h;
          store =
              p.store
              ∙ (ap (sets T n.text) u
              ∙ (sets_append T n.text (unlines m (r ∷ [])) (unlines m (trim rs))
              ∙ (ap (λ t. sets t (n.text + length (unlines m (r ∷ []))) (unlines m (trim rs))) (sym s.room) ∙ ap (λ i. sets T' i (unlines m (trim rs))) (sym s.end))));
          total = p.total ∙ (ap (λ t. n.text + length t) u ∙ (let y = length-append (unlines m (r ∷ [])) (unlines m (trim rs)) in let v = s.end in omega arith));
          bound = p.bound;
          small = p.small;
          few = omega (arith, p.few, s.end);
          inside = omega arith;
          low = p.low;
        }

    pub put_on : Putting doc col m last stop goal n' T'
    unfolding body_end
    put_on = go (first p.placed)
      where
        go : First doc col n.at p.end p.rest → Putting doc col m last stop goal n' T'
        go (first_none z) = let e = p.ends ∙ ap (body_end p.before) z in absurd (omega (arith, p.passed))
        go (first_blank rs z x q) =
            let e = p.ends ∙ ap (body_end p.before) z in
            let h = sym (ap (lower m) z) ∙ p.lowest in
            next
            blank
            rs
            (n.at + 1)
            p.before
            (one_blank x)
            q
            (omega (arith, p.passed))
            e
            h
            (ap (λ ls. unlines m (trim ls)) z ∙ ap (unlines m) (hold_some p.before last n.at rs e p.passed l))
            (omega arith)
            (omega (arith, x.inside))
        go (first_text s f rs z x q) =
            let e = p.ends ∙ ap (body_end p.before) z in
            let h = sym (ap (lower m) z) ∙ p.lowest in
            let y = least_text rs (s - (n.at + suc col)) h in
            next
            (line_at doc col n.at s f)
            rs
            (f + 1)
            f
            (one_text x y.0)
            q
            (omega arith)
            e
            y.1
            (ap (λ ls. unlines m (trim ls)) z ∙ sym (append_assoc (spaces (s - (n.at + suc col) - m) ++ slice s f doc) (10 ∷ []) (unlines m (trim rs))))
            (let k = length_line m (s - (n.at + suc col)) (slice s f doc) [] in let i = length-slice s f doc (let j = x.inside in omega arith) in omega (arith, x.deep, x.ahead))
            (omega (arith, x.inside))

    pub put_further : n.at < n'.at
    put_further = go (put_lined p l).one
      where
        go : {r : Line} {z : ℕ} → One doc col m n.at r z → n.at < n'.at
        go (one_blank x) = let a = w.at _ _ (one_blank x) in omega arith
        go (one_text t x) = let a = w.at _ _ (one_text t x) in omega (arith, t.deep, t.ahead)

  pub put_done : Putting doc col m last stop goal n T → last ≤ n.at → (T ≡ goal) × (n.text ≡ stop)
  put_done p l = go (text_ahead p.before p.placed)
    where
      go : (trim p.rest ≡ []) ⊎ (n.at < body_end p.before p.rest) → (T ≡ goal) × (n.text ≡ stop)
      go (inl z) =
          let u : unlines m (trim p.rest) ≡ [] = ap (unlines m) z in
          let k = ap length u in
          (sym (p.store ∙ ap (sets T n.text) u), omega (arith, p.total))
      go (inr z) = absurd (omega (arith, p.ends))

module _ (doc : List ℕ) (e col last least x from : ℕ) (T T' : List ℕ) (n : Cursor) (y : from ≡ spot x) (p : Putting doc col least last (from + length (body_text (body_lines doc e col))) (sets T from (body_text (body_lines doc e col))) n T') where
  -- the word goes on by what was written
  pub put_past : last ≤ n.at → from ≤ n.text
  put_past l = omega (arith, (put_done doc col least last _ _ n T' p l).1)

  pub put_word : Known doc e col last least x → x + (n.text - from) < 2 ^ 64
  put_word k = let h = word_is x in omega (arith, k.few, k.scant, k.inside, k.small, p.few, p.inside)

  pub put_stored : last ≤ n.at → Stored x (x + (n.text - from)) (body_text (body_lines doc e col)) T T'
  put_stored l = let z = put_done doc col least last _ _ n T' p l in record { end = omega (arith, z.1); room = z.0 ∙ ap (λ i. sets T i (body_text (body_lines doc e col))) y }

pub ruleset putting = (put_first, put_lined, put_on, rules)
