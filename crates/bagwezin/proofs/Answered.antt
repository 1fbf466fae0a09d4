-- Every answer of a call fits 64 bits, and the reader's answer its words. Assumes nothing.
use Prim.Native.Nat.{ℕ, ◌<◌, ◌≤◌}
use mathlib.Core.Path.{◌≡◌, sym, refl, ◌∙◌, ap, subst}
use mathlib.Core.List.{List, ◌++◌, map}
use mathlib.Core.Bool.{false, true, Bool, cond}
use native.Mathlib.Nat.{le_refl}
use native.Mathlib.Omega.{arith}
use lib.ListN.{length, length-map, drop}
use lib.Seq.{paste, take_all}
use borrow.Author.Tests.{ne_eqb, lt-ltb, le-ltb, eq-eqb}
use Rattle.model.specs.Areas.{Areas, over, padded, stride}
use Rattle.model.specs.Record.{Bytes, SmallVerdict, accepted, refused, is_accepted, Verdict}
use Rattle.model.specs.Calls.{Result, check_call, fold_call, open_call, read_call, report_call, take_call, CheckAnswer, FoldAnswer, ReadAnswer, ReportAnswer, TakeAnswer, longest_report, refused_taking}
use Rattle.model.specs.Network.{Node, levels, nodes_in, kind_of, widths, level_of}
use Rattle.laws.proofs.Bounds.{ByteList, count_most, fold_small, form_small, take-small, kinds_read, levels_read, network-small, open_small, report_small, widths_read}
use Rattle.laws.proofs.Fits.{read_accepted, read_small, length-widths}
use Rattle.laws.proofs.Build.{length-build}
use Rattle.rows.proofs.Place.{length-padded}
use Rattle.packing.specs.Packing.{Answers, ReadFits, half, read_words, value_of}
use Rattle.bagwezin.specs.Answers.{AnswersCheck, AnswersReport, bit, read_verdict, read_after, row_after, take_lent}
use Rattle.checking.specs.Answer.{check_answer_of}
use Rattle.reporting.specs.Answer.{report_answer_of}
use Rattle.std.specs.Prelude as prelude
use Rattle.std.specs.Prelude.{Ok, Err, MatchResult}
use Rattle.std.specs.Result.{IsOkAnd}
use Rattle.verdicts.specs.declared.Refusal.{Refusal}
use Rattle.verdicts.specs.Verdicts.{verdict_of}
use Rattle.taking.specs.declared.Taken.{Taken}
use Rattle.taking.specs.Taking.{Takes, node_in, words_in}
use Rattle.reporting.proofs.Sizes.{size_most}

-- ---- an answer's value mapped

-- the value, 0 beside a refusal
abbrev pub mapped : {X : Type 0} → (X → ℕ) → prelude.Result X Refusal → ℕ
mapped f (Ok x) = f x
mapped f (Err e) = 0

-- its verdict stays, and its value is the mapped one
pub map_told : {X : Type 0} (f : X → ℕ) (v : prelude.Result X Refusal) (r : prelude.Result ℕ Refusal) → MatchResult v (λ x. IsOkAnd r (λ y. y ≡ f x)) (λ e. r ≡ Err e) →
    (verdict_of r ≡ verdict_of v) × (value_of r ≡ mapped f v)
map_told f (Ok x) (Ok y) h = (refl, h)
map_told f (Ok x) (Err e) h = absurd h
map_told f (Err e) r h = rw h (refl, refl)

pub bit-small : (t : Bool) → bit t < half
bit-small true = omega arith
bit-small false = omega arith

-- an answer that only tells whether it is refused, packed with 0
pub small_none : (v : prelude.Result (Unit {0}) Refusal) (r : prelude.Result ℕ Refusal) → MatchResult v (λ _. IsOkAnd r (λ y. y ≡ 0)) (λ e. r ≡ Err e) → SmallVerdict (verdict_of v) →
    SmallVerdict (verdict_of r) × (value_of r < half)
small_none v r h s = let told = map_told (λ _. 0) v r h in (rw told.0 s, omega (arith, told.1, none v))
  where
    none : (v : prelude.Result (Unit {0}) Refusal) → mapped (λ _. 0) v ≡ 0
    none (Ok x) = refl
    none (Err e) = refl

pub told_none : (v : prelude.Result (Unit {0}) Refusal) (r : prelude.Result ℕ Refusal) → MatchResult v (λ _. IsOkAnd r (λ y. y ≡ 0)) (λ e. r ≡ Err e) →
    (answer : ℕ) → Answers (verdict_of r) (value_of r) answer → Answers (verdict_of v) 0 answer
told_none (Ok x) (Ok y) h answer a = rw h at a
told_none (Ok x) (Err e) h answer a = absurd h
told_none (Err e) r h answer a = rw h at a

-- yes or no, packed as 1 or 0
pub small_bit : (v : prelude.Result Bool Refusal) (r : prelude.Result ℕ Refusal) → MatchResult v (λ x. IsOkAnd r (λ y. y ≡ bit x)) (λ e. r ≡ Err e) →
    SmallVerdict (check_answer_of v).verdict → SmallVerdict (verdict_of r) × (value_of r < half)
small_bit (Ok x) (Ok y) h s = (s, rw h (bit-small x))
small_bit (Ok x) (Err e) h s = absurd h
small_bit (Err e) r h s = rw h (s, omega arith)

pub check_told : (v : prelude.Result Bool Refusal) (r : prelude.Result ℕ Refusal) → MatchResult v (λ x. IsOkAnd r (λ y. y ≡ bit x)) (λ e. r ≡ Err e) → (answer : ℕ) →
    Answers (verdict_of r) (value_of r) answer → AnswersCheck (check_answer_of v) answer
check_told (Ok x) (Ok y) h answer a = rw h at a
check_told (Ok x) (Err e) h answer a = absurd h
check_told (Err e) r h answer a = rw h at a

-- a report's length
pub length_small : (v : prelude.Result ℕ Refusal) (out : Bytes) → SmallVerdict (report_answer_of v out).verdict × ((report_answer_of v out).size < half) →
    SmallVerdict (verdict_of v) × (value_of v < half)
length_small (Ok x) out h = h
length_small (Err e) out h = h

pub bytes_left : (v : prelude.Result ℕ Refusal) (out : Bytes) → out ≡ (report_answer_of v out).out
bytes_left (Ok x) out = refl
bytes_left (Err e) out = refl

pub report_told : (v : prelude.Result ℕ Refusal) (out : Bytes) (answer : ℕ) → Answers (verdict_of v) (value_of v) answer → AnswersReport (report_answer_of v out) answer
report_told (Ok x) out answer a = a
report_told (Err e) out answer a = a

-- ---- every verdict is small

module _ (net : Bytes) (b : ByteList net) (a : Areas) where
  pub open_fits : (x : Result) → x ≡ open_call net a → SmallVerdict x.verdict
  unfolding open_call
  open_fits x e = subst (λ (y : Result). SmallVerdict y.verdict) (sym e) (open_small net b a)

  pub check_fits : (x : CheckAnswer) → x ≡ check_call net a → SmallVerdict x.verdict
  unfolding check_call
  check_fits x e = subst (λ (y : CheckAnswer). SmallVerdict y.verdict) (sym e) (form_small net b a)

  pub report_fits : (node : ℕ) (out : Bytes) (x : ReportAnswer) → x ≡ report_call net node a out → SmallVerdict x.verdict × (x.size < half)
  unfolding report_call
  report_fits node out x e =
      let short : x.size ≤ longest_report = subst (λ (y : ReportAnswer). y.size ≤ longest_report) (sym e) (size_most net a node out) in
      (subst (λ (y : ReportAnswer). SmallVerdict y.verdict) (sym e) (report_small net b a node out), omega arith)

  pub fold_fits : (p : List ℕ) (x : FoldAnswer) → x ≡ fold_call net a p → SmallVerdict x.verdict
  fold_fits p x e = subst (λ (y : FoldAnswer). SmallVerdict y.verdict) (sym e) (fold_small net b a p)

  pub take-fits : (p : List ℕ) (r : prelude.Result Taken Refusal) (after : List ℕ) → Takes (take_call net a p) r after → SmallVerdict (verdict_of r) × (node_in r < half)
  take-fits p r after t =
      let s : SmallVerdict (take_call net a p).verdict × ((take_call net a p).node < 32) = take-small net b a p in
      (rw t.verdict s.0, omega (arith, t.node, s.1))

pub reader_fits : (net : Bytes) → ByteList net → (x : ReadAnswer) → x ≡ read_call net → SmallVerdict x.verdict
unfolding read_call
reader_fits net b x e = subst (λ (y : ReadAnswer). SmallVerdict y.verdict) (sym e) (network-small net b)

-- ---- the reader's answer

-- it fits 97 words
call_fits : (net : Bytes) → ReadFits (read_call net)
unfolding read_call levels
call_fits net =
    let nodes : List Node = nodes_in net in
    let few : length nodes ≤ 32 = (read_small net).few in
    record {
      kinds-length = length-padded 32 (map kind_of nodes) (rw (length-map nodes kind_of) few);
      widths-length = length-padded 32 (widths nodes) (rw (length-widths nodes) few);
      levels-length = length-padded 32 (levels nodes) (rw (length-build level_of nodes) few);
      count_fits = omega (arith, count_most net);
      kinds-fit = λ i. omega (arith, kinds_read net i);
      widths-fit = λ i. omega (arith, widths_read net i);
      levels-fit = λ i. omega (arith, levels_read net i);
    }

pub read_fits : (net : Bytes) (x : ReadAnswer) → x ≡ read_call net → ReadFits x
read_fits net x is = subst ReadFits (sym is) (call_fits net)

pub read_short : (net : Bytes) (answer : List ℕ) (r : ℕ) → length answer < 97 → Answers (refused 1 0) 0 r → Answers (read_verdict net answer) 0 r × (answer ≡ read_after net answer)
read_short net answer r h e = rw (lt-ltb (length answer) 97 h) (e, refl)

module _ (net : Bytes) (answer : List ℕ) (x : ReadAnswer) (is : x ≡ read_call net) (h : 97 ≤ length answer) where
  verdict_is : read_verdict net answer ≡ (read_call net).verdict
  verdict_is = ap (λ (t : Bool). cond t (refused 1 0) (read_call net).verdict) (le-ltb (length answer) 97 h)

  after_is : (t : Bool) → is_accepted (read_call net).verdict ≡ t → read_after net answer ≡ cond t (read_words (read_call net) ++ drop 97 answer) answer
  after_is t e = ap (λ (v : Verdict). cond (is_accepted v) (read_words (read_call net) ++ drop 97 answer) answer) verdict_is
      ∙ ap (λ (b : Bool). cond b (read_words (read_call net) ++ drop 97 answer) answer) e

  answered : (r : ℕ) → Answers x.verdict 0 r → Answers (read_verdict net answer) 0 r
  answered r e = subst (λ (v : Verdict). Answers v 0 r) (ap (λ (y : ReadAnswer). y.verdict) is ∙ sym verdict_is) e

  pub read_refused : (r : ℕ) → Answers x.verdict 0 r → (x.verdict.number ≡ 0 → ⊥) → Answers (read_verdict net answer) 0 r × (answer ≡ read_after net answer)
  read_refused r e n =
      let no : is_accepted (read_call net).verdict ≡ false = ap (λ (y : ReadAnswer). is_accepted y.verdict) (sym is) ∙ ne_eqb x.verdict.number 0 n in
      (answered r e, sym (after_is false no))

  verdict-accepted : x.verdict.number ≡ 0 → x.verdict ≡ accepted
  unfolding read_call
  verdict-accepted z = ap (λ (y : ReadAnswer). y.verdict) is ∙ read_accepted net (ap (λ (y : ReadAnswer). y.verdict.number) (sym is) ∙ z)

  pub read_written : (r : ℕ) (after : List ℕ) → Answers accepted 0 r → x.verdict.number ≡ 0 → after ≡ read_words x ++ drop 97 answer →
      Answers (read_verdict net answer) 0 r × (after ≡ read_after net answer)
  read_written r after e z w =
      let yes : is_accepted (read_call net).verdict ≡ true = ap (λ (y : ReadAnswer). is_accepted y.verdict) (sym is) ∙ eq-eqb x.verdict.number 0 z in (
        answered r (subst (λ (v : Verdict). Answers v 0 r) (sym (verdict-accepted z)) e),
        w ∙ ap (λ (y : ReadAnswer). read_words y ++ drop 97 answer) is ∙ sym (after_is true yes),
      )

-- ---- a taking

-- fewer than 4 lent words
pub take_short : (net : Bytes) (a : Areas) (p answer : List ℕ) (r : ℕ) → length answer < stride → Answers (refused 1 0) 0 r →
    Answers (take_lent net a p answer).verdict (take_lent net a p answer).node r × (p ≡ (take_lent net a p answer).pending) × (answer ≡ row_after (take_lent net a p answer) answer)
take_short net a p answer r h e = rw (lt-ltb (length answer) stride h) (e, refl, refl)

module _ (net : Bytes) (a : Areas) (p answer : List ℕ) (t : prelude.Result Taken Refusal) (after : List ℕ) (k : Takes (take_call net a p) t after) (h : stride ≤ length answer) where
  lent_is : take_lent net a p answer ≡ take_call net a p
  lent_is = ap (λ (u : Bool). cond u (refused_taking (refused 1 0) p) (take_call net a p)) (le-ltb (length answer) stride h)

  row-after : (u : Bool) → is_accepted (verdict_of t) ≡ u → row_after (take_lent net a p answer) answer ≡ cond u (over (padded stride (take_call net a p).row) answer) answer
  row-after u e =
      ap (λ (x : TakeAnswer). row_after x answer) lent_is
      ∙ ap (λ (w : Bool). cond w (over (padded stride (take_call net a p).row) answer) answer) (ap is_accepted (sym k.verdict) ∙ e)

  answered_take : (r : ℕ) → Answers (verdict_of t) (node_in t) r → Answers (take_lent net a p answer).verdict (take_lent net a p answer).node r
  answered_take r e =
      subst (λ (y : TakeAnswer). Answers y.verdict y.node r) (sym lent_is)
      (subst (λ (x : Verdict). Answers x (take_call net a p).node r) k.verdict (subst (λ (n : ℕ). Answers (verdict_of t) n r) k.node e))

  pub take-refused : (r : ℕ) → Answers (verdict_of t) (node_in t) r → is_accepted (verdict_of t) ≡ false →
      Answers (take_lent net a p answer).verdict (take_lent net a p answer).node r × (after ≡ (take_lent net a p answer).pending) × (answer ≡ row_after (take_lent net a p answer) answer)
  take-refused r e n = (answered_take r e, rw lent_is k.pending, sym (row-after false n))

  pub take_written : (r : ℕ) → Answers (verdict_of t) (node_in t) r → is_accepted (verdict_of t) ≡ true → (written : List ℕ) → written ≡ paste answer 0 (words_in t) stride →
      Answers (take_lent net a p answer).verdict (take_lent net a p answer).node r × (after ≡ (take_lent net a p answer).pending) × (written ≡ row_after (take_lent net a p answer) answer)
  take_written r e z written w =
      let size : length (words_in t) ≡ stride = k.row-long in
      let whole : paste answer 0 (words_in t) stride ≡ over (padded stride (take_call net a p).row) answer =
      ap (λ (l : List ℕ). l ++ drop stride answer) (take_all stride (words_in t) (rw size (le_refl stride)))
      ∙ ap (λ (n : ℕ). words_in t ++ drop n answer) (sym size) ∙ ap (λ (l : List ℕ). over l answer) k.row in
      (answered_take r e, rw lent_is k.pending, w ∙ whole ∙ sym (row-after true z))
