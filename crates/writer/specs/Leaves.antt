-- SCALARS AND KEYS: texts shown character by character, keys bare where they can be, and bytes as hex pairs. Assumes nothing.
use Rattle.std.specs.Prelude.{◌≡◌, ◌⊎◌, refl, Bool, true, false, ℕ, suc, ◌+◌, ◌*◌, ◌/◌, ◌%◌, ◌≤◌, ◌<◌, set, get_or}
use Rattle.std.proofs.Common.{inl, inr, sym, subst, ◌∙◌, arith, length-append, length-drop, drop-cons, ne_eqb}
use Rattle.std.proofs.Math.Path.{ap}
use mathlib.Core.List.{List, [], ◌∷◌, ◌++◌, append_assoc, append-nil}
use Rattle.std.proofs.Math.ListN.{length, drop}
use Rattle.std.proofs.lemmas.List.Edits.{sets}
use Rattle.std.proofs.Math.Seq.{slice, drop-length}
use Rattle.notation.specs.Class.{pick, and, is}
use Rattle.std.specs.List.{between as part_of}
use Rattle.std.proofs.lemmas.Slice.{between_is}
use Rattle.exact.specs.Place.{run}
use Rattle.characters.specs.Plains.{RunTo}
use Rattle.language.specs.Characters.{utf8}
use Rattle.language.specs.Scalars.{null_word, true_word, false_word}
use Rattle.language.specs.Strings.{keybyte}
use Rattle.language.specs.House.{hexletter, shown, shown_text, quoted, keybytes, bareable, hex_pairs, scalar_text}
use Rattle.house.specs.Hexes.{scalar_small}
use Rattle.house.specs.Lead.{shown_first}
use Rattle.rooms.specs.Stores.{sets_past}
use Rattle.shaped.specs.Shaped.{Scripted}
use Rattle.writer.specs.declared.Code.{Code}
use Rattle.writer.specs.declared.Step.{Step}
use Rattle.writer.specs.Puts.{ceiling, Puts, puts_none, puts_as, puts_then}
use Rattle.writer.specs.Codes.{first, Leads, Coded, coded_one, Marks, lead_bytes, lead_rest, lead_inside}
use Rattle.writer.specs.Runs.{Selfs, longer}

-- ASKED of a text that is shown from `at` on
pub record Text (s : List ℕ) (at x : ℕ) : Type 0 where
  pub script : Scripted (drop at s)
  pub room : x + length (shown_text (drop at s)) ≤ ceiling

-- PROMISED of a step: the next bytes are shown
pub record Steps (s : List ℕ) (at x : ℕ) (r : Step) (out out' : List ℕ) : Type 0 where
  pub bytes : List ℕ
  pub is : shown_text (drop at s) ≡ bytes ++ shown_text (drop r.at s)
  pub puts : Puts bytes x r.x out out'
  pub script : Scripted (drop r.at s)
  pub ahead : at < r.at
  pub inside : r.at ≤ length s

-- what has been shown of a text
pub record Shown (s : List ℕ) (x at y : ℕ) (out out' : List ℕ) : Type 0 where
  pub bytes : List ℕ
  pub is : shown_text s ≡ bytes ++ shown_text (drop at s)
  pub puts : Puts bytes x y out out'
  pub script : Scripted (drop at s)
  pub inside : at ≤ length s

-- A RUN OF CHARACTERS THAT ARE SHOWN AS THEY ARE: it has room, and is a step
module _ (s : List ℕ) (at e : ℕ) (h : Selfs s at e) where
  pub run_room : {x : ℕ} → Text s at x → x + length (part_of at e s) ≤ ceiling
  run_room t = omega (arith, t.room, ap length h.is, length-append (slice at e s) (shown_text (drop e s)), ap length (between_is s at e))

  pub step_run : {x y : ℕ} {out out' : List ℕ} → Text s at x → at < e → Puts (part_of at e s) x y out out' → Steps s at x (record { at = e; x = y }) out out'
  step_run t l p = record { bytes = slice at e s; is = h.is; puts = puts_as (between_is s at e) p; script = h.script t.script; ahead = l; inside = h.inside }

-- ---- a character

module _ (s : List ℕ) (at x : ℕ) (t : Text s at x) (l : at < length s) where
  pub text_leads : Leads s at
  text_leads = first t.script (omega (arith, length-drop at s))

  char_is : shown_text (drop at s) ≡ shown text_leads.value ++ shown_text text_leads.rest
  char_is = ap shown_text text_leads.is ∙ shown_first text_leads.value text_leads.rest (scalar_small text_leads.value text_leads.good)

  module _ (c : Code) (k : Coded text_leads.value at c) where
    next_is : drop c.next s ≡ text_leads.rest
    next_is = ap (λ i. drop i s) k.next ∙ lead_rest s at text_leads

    -- its bytes stand from `at` on
    pub char_from : at ≤ c.next
    char_from = omega (arith, k.next)

    pub char_inside : c.next ≤ length s
    char_inside = omega (arith, k.next, lead_inside s at text_leads l)

    pub char_marks : Marks (part_of at c.next s) c.value x
    char_marks =
        record {
          bytes = between_is s at c.next ∙ (ap (λ i. slice at i s) k.next ∙ (lead_bytes s at text_leads ∙ ap utf8 (sym k.value)));
          room =
              let e = ap length (ap (λ v. shown v) k.value) in
              omega (arith, t.room, ap length char_is, length-append (shown text_leads.value) (shown_text text_leads.rest));
        }

    pub step_char : {y : ℕ} {out out' : List ℕ} → Puts (shown c.value) x y out out' → Steps s at x (record { at = c.next; x = y }) out out'
    step_char p =
        record {
          bytes = shown c.value;
          is = char_is ∙ (ap (λ v. shown v ++ shown_text text_leads.rest) (sym k.value) ∙ ap (λ u. shown c.value ++ shown_text u) (sym next_is));
          puts = p;
          script = subst Scripted (sym next_is) text_leads.script;
          ahead = omega (arith, k.next, longer text_leads.value);
          inside = omega (arith, k.next, lead_inside s at text_leads l);
        }

  -- one of a single byte
  module _ {b : ℕ} (e : b ≡ get_or s at 0) (k : b ≤ 127) where
    pub byte_room : x + length (shown b) ≤ ceiling
    byte_room = (char_marks (record { value = b; next = at + 1 }) (coded_one s at text_leads e k)).room

    pub step_byte : {y : ℕ} {out out' : List ℕ} → Puts (shown b) x y out out' → Steps s at x (record { at = at + 1; x = y }) out out'
    step_byte p = step_char (record { value = b; next = at + 1 }) (coded_one s at text_leads e k) p

-- ---- all characters of a text

pub text_all : {s : List ℕ} {x : ℕ} → Scripted s → x + length (shown_text s) < ceiling → Text s 0 x
text_all h k = record { script = h; room = omega arith }

module _ (s : List ℕ) (x : ℕ) where
  pub shown_start : {out : List ℕ} → Text s 0 x → Shown s x 0 x out out
  shown_start t = record { bytes = []; is = refl; puts = puts_none; script = t.script; inside = omega arith }

  pub shown_left : {at y : ℕ} {out out' : List ℕ} → Text s 0 x → Shown s x at y out out' → Text s at y
  shown_left {at} t h =
      record { script = h.script; room = omega (arith, t.room, h.puts.ends, ap length h.is, length-append h.bytes (shown_text (drop at s))) }

  pub shown_step : {at y : ℕ} {r : Step} {out out' out'' : List ℕ} → Shown s x at y out out' → Steps s at y r out' out'' → Shown s x r.at r.x out out''
  shown_step {r = r} h k =
      record {
        bytes = h.bytes ++ k.bytes;
        is = h.is ∙ (ap (λ l. h.bytes ++ l) k.is ∙ sym (append_assoc h.bytes k.bytes (shown_text (drop r.at s))));
        puts = puts_then h.puts k.puts;
        script = k.script;
        inside = k.inside;
      }

  pub shown_end : {at y : ℕ} {out out' : List ℕ} → Shown s x at y out out' → length s ≤ at → Puts (shown_text s) x y out out'
  unfolding shown_text
  shown_end {at} h l =
      let e : at ≡ length s = omega (arith, h.inside) in
      let n : drop at s ≡ [] = ap (λ i. drop i s) e ∙ drop-length s in
      puts_as (sym (h.is ∙ (ap (λ u. h.bytes ++ shown_text u) n ∙ append-nil h.bytes))) h.puts

pub ruleset showing_all = (shown_start, shown_left, shown_step, shown_end)

-- ---- a key: "bare keys wherever a key allows it"

keys_all_by : (b : ℕ) (t : List ℕ) → (run keybyte t ≡ length t → keybytes t ≡ true) → (c : Bool) → is keybyte b ≡ c → pick c (suc (run keybyte t)) 0 ≡ suc (length t) → and c (keybytes t) ≡ true
keys_all_by b t ih true e h = ih (omega arith)
keys_all_by b t ih false e h = absurd (omega arith)

keys_all : (s : List ℕ) → run keybyte s ≡ length s → keybytes s ≡ true
unfolding run keybytes
keys_all [] h = refl
keys_all (b ∷ t) h = keys_all_by b t (keys_all t) (is keybyte b) refl h

keys_some_by : (b : ℕ) (t : List ℕ) → (run keybyte t < length t → keybytes t ≡ false) → (c : Bool) → is keybyte b ≡ c → pick c (suc (run keybyte t)) 0 < suc (length t) → and c (keybytes t) ≡ false
keys_some_by b t ih true e h = ih (omega arith)
keys_some_by b t ih false e h = refl

keys_some : (s : List ℕ) → run keybyte s < length s → keybytes s ≡ false
unfolding run keybytes
keys_some [] h = absurd (omega arith)
keys_some (b ∷ t) h = keys_some_by b t (keys_some t) (is keybyte b) refl h

bare_yes : (s : List ℕ) → run keybyte s ≡ length s → 0 < length s → bareable s ≡ true
bare_yes [] h l = absurd (omega arith)
bare_yes (b ∷ t) h l = keys_all (b ∷ t) h

bare_no : (s : List ℕ) → run keybyte s < length s → bareable s ≡ false
bare_no [] h = absurd (omega arith)
bare_no (b ∷ t) h = keys_some (b ∷ t) h

bare_empty : (s : List ℕ) → run keybyte s ≡ 0 → bareable s ≡ false
bare_empty [] h = refl
bare_empty (b ∷ t) h = keys_some (b ∷ t) (omega arith)

key_bare_is : (s : List ℕ) → bareable s ≡ true → scalar_text 10 s ≡ s
unfolding scalar_text
key_bare_is s e = rw e

key_quoted_is : (s : List ℕ) → bareable s ≡ false → scalar_text 10 s ≡ quoted s
unfolding scalar_text
key_quoted_is s e = rw e

module _ (s : List ℕ) {e : ℕ} (h : RunTo keybyte s 0 e) where
  run_at : run keybyte s ≡ e
  run_at = omega (arith, h.is)

  empty : e ≡ 0 → bareable s ≡ false
  empty z = bare_empty s (run_at ∙ z)

  other : e < length s → bareable s ≡ false
  other l = bare_no s (omega (arith, run_at))

  whole : (e ≡ 0 → ⊥) → length s ≤ e → bareable s ≡ true
  whole z l = bare_yes s (omega (arith, run_at, h.inside)) (omega (arith, h.inside, z))

  -- told by code
  abbrev pub Other : Type 0
  Other = (e ≡ 0) ⊎ ((e ≡ 0 → ⊥) × (e < length s))

  no_bare : Other → bareable s ≡ false
  no_bare (inl z) = empty z
  no_bare (inr (n, l)) = other l

  pub key_quoted : {x y : ℕ} {out out' : List ℕ} → Other → Puts (quoted s) x y out out' → Puts (scalar_text 10 s) x y out out'
  key_quoted o p = puts_as (sym (key_quoted_is s (no_bare o))) p

  pub key_bare : {x y : ℕ} {out out' : List ℕ} → (e ≡ 0 → ⊥) → length s ≤ e → Puts s x y out out' → Puts (scalar_text 10 s) x y out out'
  key_bare z l p = puts_as (sym (key_bare_is s (whole z l))) p

  module _ (x : ℕ) (room : x + length (scalar_text 10 s) ≤ ceiling) where
    pub quoted_room : Other → x + length (quoted s) ≤ ceiling
    quoted_room o = subst (λ w. x + length w ≤ ceiling) (key_quoted_is s (no_bare o)) room

    pub bare_room : (e ≡ 0 → ⊥) → length s ≤ e → x + length s ≤ ceiling
    bare_room z l = subst (λ w. x + length w ≤ ceiling) (key_bare_is s (whole z l)) room

pub ruleset keying = (key_quoted, key_bare, quoted_room, bare_room)

-- ---- "inline bytes without spaces"

pub length_pairs : (s : List ℕ) → length (hex_pairs s) ≡ 2 * length s
unfolding hex_pairs
length_pairs [] = refl
length_pairs (b ∷ s) = let e = length_pairs s in omega arith

pub pairs_none : (s out : List ℕ) (x : ℕ) → length out ≤ x → Puts (hex_pairs s) x (x + 2 * length s) out out
pairs_none s out x h = record { ends = omega (arith, length_pairs s); holds = sets_past (hex_pairs s) out x h }

pub pairs_turn : (goal s out new : List ℕ) (x y at d e : ℕ) → goal ≡ sets out (x + 2 * at) (hex_pairs (drop at s)) → at < length s
    → d ≡ hexletter (get_or s at 0 / 16) → e ≡ hexletter (get_or s at 0 % 16) → Puts (d ∷ e ∷ []) (x + 2 * at) y out new → goal ≡ sets new (x + 2 * (at + 1)) (hex_pairs (drop (at + 1) s))
unfolding hex_pairs
pairs_turn goal s out new x y at d e inv l p r t =
    let b = get_or s at 0 in
    let n : x + 2 * (at + 1) ≡ suc (suc (x + 2 * at)) = omega arith in
    let m : at + 1 ≡ suc at = omega arith in
    let w : new ≡ set (set out (x + 2 * at) (hexletter (b / 16))) (suc (x + 2 * at)) (hexletter (b % 16)) =
    t.holds ∙ (ap (λ i. set (set out (x + 2 * at) i) (suc (x + 2 * at)) e) p ∙ ap (set (set out (x + 2 * at) (hexletter (b / 16))) (suc (x + 2 * at))) r) in
    inv ∙ (ap (λ u. sets out (x + 2 * at) (hex_pairs u)) (drop-cons s at 0 l) ∙ rw (n, m, w))

pub pairs_done : (s out new : List ℕ) (x at : ℕ) → sets out x (hex_pairs s) ≡ sets new (x + 2 * at) (hex_pairs (drop at s)) → at ≤ length s → length s ≤ at
    → Puts (hex_pairs s) x (x + 2 * length s) out new
unfolding hex_pairs
pairs_done s out new x at inv h l =
    let e : at ≡ length s = omega arith in
    let n : drop at s ≡ [] = ap (λ i. drop i s) e ∙ drop-length s in
    record { ends = omega (arith, length_pairs s); holds = sym (inv ∙ ap (λ u. sets new (x + 2 * at) (hex_pairs u)) n) }

-- they have room between angles
pub pairs_room : (s : List ℕ) {x y : ℕ} {o p : List ℕ} → x + length (60 ∷ hex_pairs s ++ 62 ∷ []) ≤ ceiling → Puts (60 ∷ []) x y o p → y + 2 * length s ≤ ceiling
pairs_room s m h = omega (arith, h.ends, length-append (hex_pairs s) (62 ∷ []), length_pairs s)

-- ---- a scalar or a key by its kind

pub record Spelt (kind : ℕ) (s : List ℕ) (x : ℕ) : Type 0 where
  pub string : kind ≡ 6 → Scripted s
  pub key : kind ≡ 10 → Scripted s
  pub room : x + length (scalar_text kind s) ≤ ceiling

-- what is written for each kind
kind_is : (n : ℕ) (s w : List ℕ) → scalar_text n s ≡ w → {kind : ℕ} → kind ≡ n → scalar_text kind s ≡ w
kind_is n s w h e = ap (λ k. scalar_text k s) e ∙ h

null_is : (s : List ℕ) → scalar_text 1 s ≡ null_word
unfolding scalar_text
null_is s = refl

false_is : (s : List ℕ) → scalar_text 2 s ≡ false_word
unfolding scalar_text
false_is s = refl

true_is : (s : List ℕ) → scalar_text 3 s ≡ true_word
unfolding scalar_text
true_is s = refl

string_is : (s : List ℕ) → scalar_text 6 s ≡ quoted s
unfolding scalar_text
string_is s = refl

bytes_is : (s : List ℕ) → scalar_text 7 s ≡ 60 ∷ hex_pairs s ++ 62 ∷ []
unfolding scalar_text
bytes_is s = refl

other_is : (s : List ℕ) {kind : ℕ} → (kind ≡ 1 → ⊥) → (kind ≡ 2 → ⊥) → (kind ≡ 3 → ⊥) → (kind ≡ 6 → ⊥) → (kind ≡ 7 → ⊥) → (kind ≡ 10 → ⊥) → scalar_text kind s ≡ s
unfolding scalar_text
other_is s {kind} a b c d e f = rw (ne_eqb kind 1 a, ne_eqb kind 2 b, ne_eqb kind 3 c, ne_eqb kind 6 d, ne_eqb kind 7 e, ne_eqb kind 10 f)

module _ (kind : ℕ) (s : List ℕ) {x y : ℕ} {out out' : List ℕ} where
  pub as_null : kind ≡ 1 → Puts null_word x y out out' → Puts (scalar_text kind s) x y out out'
  as_null e p = puts_as (sym (kind_is 1 s _ (null_is s) e)) p

  pub as_false : kind ≡ 2 → Puts false_word x y out out' → Puts (scalar_text kind s) x y out out'
  as_false e p = puts_as (sym (kind_is 2 s _ (false_is s) e)) p

  pub as_true : kind ≡ 3 → Puts true_word x y out out' → Puts (scalar_text kind s) x y out out'
  as_true e p = puts_as (sym (kind_is 3 s _ (true_is s) e)) p

  pub as_string : kind ≡ 6 → Puts (quoted s) x y out out' → Puts (scalar_text kind s) x y out out'
  as_string e p = puts_as (sym (kind_is 6 s _ (string_is s) e)) p

  pub as_bytes : kind ≡ 7 → Puts (60 ∷ hex_pairs s ++ 62 ∷ []) x y out out' → Puts (scalar_text kind s) x y out out'
  as_bytes e p = puts_as (sym (kind_is 7 s _ (bytes_is s) e)) p

  pub as_key : kind ≡ 10 → Puts (scalar_text 10 s) x y out out' → Puts (scalar_text kind s) x y out out'
  as_key e p = puts_as (sym (kind_is 10 s _ refl e)) p

  pub as_other : (kind ≡ 1 → ⊥) → (kind ≡ 2 → ⊥) → (kind ≡ 3 → ⊥) → (kind ≡ 6 → ⊥) → (kind ≡ 7 → ⊥) → (kind ≡ 10 → ⊥) → Puts s x y out out' → Puts (scalar_text kind s) x y out out'
  as_other a b c d e f p = puts_as (sym (other_is s a b c d e f)) p

module _ (kind : ℕ) (s : List ℕ) {x : ℕ} (h : Spelt kind s x) where
  as_room : (w : List ℕ) → scalar_text kind s ≡ w → x + length w ≤ ceiling
  as_room w e = subst (λ u. x + length u ≤ ceiling) e h.room

  pub null_room : kind ≡ 1 → x + length null_word ≤ ceiling
  null_room e = as_room _ (kind_is 1 s _ (null_is s) e)

  pub false_room : kind ≡ 2 → x + length false_word ≤ ceiling
  false_room e = as_room _ (kind_is 2 s _ (false_is s) e)

  pub true_room : kind ≡ 3 → x + length true_word ≤ ceiling
  true_room e = as_room _ (kind_is 3 s _ (true_is s) e)

  pub string_room : kind ≡ 6 → x + length (quoted s) ≤ ceiling
  string_room e = as_room _ (kind_is 6 s _ (string_is s) e)

  pub bytes_room : kind ≡ 7 → x + length (60 ∷ hex_pairs s ++ 62 ∷ []) ≤ ceiling
  bytes_room e = as_room _ (kind_is 7 s _ (bytes_is s) e)

  pub key_room : kind ≡ 10 → x + length (scalar_text 10 s) ≤ ceiling
  key_room e = as_room _ (kind_is 10 s _ refl e)

  pub plain_room : (kind ≡ 1 → ⊥) → (kind ≡ 2 → ⊥) → (kind ≡ 3 → ⊥) → (kind ≡ 6 → ⊥) → (kind ≡ 7 → ⊥) → (kind ≡ 10 → ⊥) → x + length s ≤ ceiling
  plain_room a b c d e f = as_room _ (other_is s a b c d e f)

  pub string_script : kind ≡ 6 → Scripted s
  string_script e = h.string e

  pub key_script : kind ≡ 10 → Scripted s
  key_script e = h.key e

pub ruleset spelling = (as_null, as_false, as_true, as_string, as_bytes, as_key, as_other, null_room, false_room, true_room, string_room, bytes_room, key_room, plain_room, string_script, key_script)
