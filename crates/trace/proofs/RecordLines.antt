-- The line of a record, put field after field.
use Rattle.std.proofs.Common.{◌≡◌, ℕ, ◌/◌, ◌%◌, ◌<◌, ◌≤◌, List, [], ◌∷◌, ◌++◌, Option, codes, get_or, slice_set, length, ◌+◌, ◌-◌, take, drop, refl, sym, ap, ◌∙◌, append_assoc, arith}
use Rattle.hex.specs.Hex.{encode_lower}
use Rattle.std.specs.List.{flat_map}
use Rattle.std.proofs.lemmas.List.{append-nil, take_all, take_more}
use Rattle.std.proofs.lemmas.List.Concat.{flat_map-append}
use Rattle.chain.specs.declared.segment.Segment.{Segment}
use Rattle.board.specs.declared.reply.Record.{Record}
use Rattle.board.specs.declared.reply.Reply.{Reply}
use Rattle.trace.specs.Asked.{Begun, asked_field, asked_line, other_run, run_field, runs_field}
use Rattle.trace.specs.Records.{entry_of, quiet_line, record_fields, record_line, reply_field}
use Rattle.trace.specs.Sends.{Sends}
use Rattle.hexadecimal.specs.Spelling.{bytes, digit, fixed, num}
use Rattle.trace.specs.Text.{line, ended}
use Rattle.hexadecimal.proofs.ByteFields.{all_written, one_block}
use Rattle.hexadecimal.proofs.Numbers.{num_digit, num_split}
use Rattle.trace.proofs.Fronts.{one_digit}
use Rattle.trace.proofs.Passing.{sends_more, sends_same}
use Rattle.trace.proofs.Printed.{line_push}

-- what begins with a number of two digits
pub two_digits : (n d e : ℕ) (rest : List ℕ) → 16 ≤ n → n < 256 → d ≡ digit (n / 16) → e ≡ digit (n % 16)
    → d ∷ e ∷ rest ≡ num n ++ rest
two_digits n d e rest le lt p q =
    let small : n / 16 < 16 = omega arith in
    rw (p, q, num_split n le, num_digit (n / 16) small) refl

-- a line whose first byte is put: the slot's only digit, or its second one behind the first
pub numbered_one : (n x : ℕ) (xs : List ℕ) → n < 16 → 1 ≤ length xs → x ≡ digit (n % 16)
    → slice_set xs 0 x ≡ num n ++ drop 1 xs
numbered_one n x [] lt some is = absurd (omega arith)
numbered_one n x (v ∷ xs) lt some is =
    let small : n % 16 ≡ n = omega arith in one_digit n x xs lt (sym (is ∙ ap digit small))

pub numbered_two : (n x : ℕ) (xs : List ℕ) → 16 ≤ n → n < 256 → 1 ≤ length xs → x ≡ digit (n % 16)
    → digit (n / 16) ∷ slice_set xs 0 x ≡ num n ++ drop 1 xs
numbered_two n x [] le lt some is = absurd (omega arith)
numbered_two n x (v ∷ xs) le lt some is = two_digits n (digit (n / 16)) x xs le lt refl is

-- the line of a record without output, by its bytes
pub quiet_is : (slot : ℕ) (reply : List ℕ) (words : ℕ × ℕ) → num slot
    ++ 32 ∷ (reply ++ 32 ∷ 45 ∷ 32 ∷ digit words.0 ∷ 32 ∷ digit words.1 ∷ 10 ∷ [])
    ≡ ended (quiet_line slot reply words)
unfolding quiet_line bytes
quiet_is slot reply words = simp append_assoc

-- the same of how many bytes were taken, put in four parts
pub took_is : (slot count : ℕ) (words : ℕ × ℕ) → (num slot ++ 32 ∷ [])
    ++ (codes "took:" ++ (num count ++ 32 ∷ 45 ∷ 32 ∷ digit words.0 ∷ 32 ∷ digit words.1 ∷ 10 ∷ []))
    ≡ ended (quiet_line slot (codes "took:" ++ num count) words)
took_is slot count words =
    let tail : List ℕ = 32 ∷ 45 ∷ 32 ∷ digit words.0 ∷ 32 ∷ digit words.1 ∷ 10 ∷ [] in
    append_assoc (num slot) (32 ∷ []) (codes "took:" ++ (num count ++ tail))
    ∙ ap (λ (t : List ℕ). num slot ++ 32 ∷ t) (sym (append_assoc (codes "took:") (num count) tail))
    ∙ quiet_is slot (codes "took:" ++ num count) words

-- the same where that number has two digits, put at once
pub took_two : (slot count x y : ℕ) (words : ℕ × ℕ) → 16 ≤ count → count < 256 → x ≡ digit (count / 16)
    → y ≡ digit (count % 16)
    → num slot ++ 32 ∷ (codes "took:"
    ++ x ∷ y ∷ 32 ∷ 45 ∷ 32 ∷ digit words.0 ∷ 32 ∷ digit words.1 ∷ 10 ∷ [])
    ≡ ended (quiet_line slot (codes "took:" ++ num count) words)
took_two slot count x y words le lt p q =
    let tail : List ℕ = 32 ∷ 45 ∷ 32 ∷ digit words.0 ∷ 32 ∷ digit words.1 ∷ 10 ∷ [] in
    ap (λ (t : List ℕ). num slot ++ 32 ∷ (codes "took:" ++ t)) (two_digits count x y tail le lt p q)
    ∙ ap (λ (t : List ℕ). num slot ++ 32 ∷ t) (sym (append_assoc (codes "took:") (num count) tail))
    ∙ quiet_is slot (codes "took:" ++ num count) words

-- a line without output is that line
pub quiet_of : {A : Type 0} → (slot : ℕ) (reply : Reply A) (output : List ℕ) (words : ℕ × ℕ) (field : List ℕ)
    → length output ≡ 0 → reply_field reply ≡ field
    → ended (quiet_line slot field words) ≡ ended (record_line (entry_of slot reply output words))
unfolding quiet_line record_line
quiet_of slot reply [] words field none is = rw is refl
quiet_of slot reply (x ∷ xs) words field none is = absurd cc

-- the line of a value, made in a line of the same length
pub value_line : (slot value x y : ℕ) (words : ℕ × ℕ) (digits : List ℕ) → digits ≡ fixed 8 value
    → x ≡ digit words.0 → y ≡ digit words.1
    → num slot ++ 32 ∷ 118 ∷ 58 ∷ slice_set (slice_set (digits ++ 32 ∷ 45 ∷ 32 ∷ 48 ∷ 32 ∷ 48 ∷ 10 ∷ []) 11 x)
    13 y ≡ ended (quiet_line slot (codes "v:" ++ fixed 8 value) words)
unfolding fixed
value_line slot value x y words digits is p q =
    rw (is, p, q) (quiet_is slot (codes "v:" ++ fixed 8 value) words)

-- some of the bytes were put, and these are left
pub record PutFront (a b s t : Option (List ℕ)) (bytes rest : List ℕ) : Type 0 where
  pub done : List ℕ
  pub sent : Sends a b s done t
  pub whole : done ++ encode_lower rest ≡ encode_lower bytes

-- n bytes more
pub put_more : (a b c s t u : Option (List ℕ)) (bytes rest : List ℕ) (n : ℕ) → PutFront a b s t bytes rest
    → Sends b c t (encode_lower (take n rest)) u → PutFront a c s u bytes (drop n rest)
put_more a b c s t u bytes rest n p q = record {
  done = p.done ++ encode_lower (take n rest);
  sent = sends_more a b c s t u p.done (encode_lower (take n rest)) p.sent q;
  whole = one_block (p.done ++ encode_lower (take n rest)) p.done (encode_lower bytes) rest n p.whole refl;
}

-- none is left
pub put_all : (a b s t : Option (List ℕ)) (bytes rest text : List ℕ) → PutFront a b s t bytes rest
    → length rest ≡ 0 → text ≡ encode_lower bytes → Sends a b s text t
put_all a b s t bytes rest text p none is =
    sends_same a b s t p.done text (all_written p.done (encode_lower bytes) rest p.whole none ∙ sym is) p.sent

line_is : (a b c : List ℕ) (x y z : ℕ) → (a ++ 32 ∷ []) ++ (b ++ (32 ∷ c ++ 32 ∷ x ∷ 32 ∷ y ∷ z ∷ []))
    ≡ line (a ∷ b ∷ c ∷ (x ∷ []) ∷ (y ∷ []) ∷ []) ++ z ∷ []
line_is a b c x y z = simp append_assoc

-- five fields, each but the first after a space, and a byte behind them
pub line_put : (i j k l m s t u v w : Option (List ℕ)) (a b c : List ℕ) (x y z : ℕ)
    → Sends i j s (a ++ 32 ∷ []) t → Sends j k t b u → Sends k l u (32 ∷ c) v
    → Sends l m v (32 ∷ x ∷ 32 ∷ y ∷ z ∷ []) w
    → Sends i m s (line (a ∷ b ∷ c ∷ (x ∷ []) ∷ (y ∷ []) ∷ []) ++ z ∷ []) w
line_put i j k l m s t u v w a b c x y z p q r e =
    sends_same i m s w _ _ (line_is a b c x y z)
    (sends_more i j m s t w (a ++ 32 ∷ []) (b ++ (32 ∷ c ++ 32 ∷ x ∷ 32 ∷ y ∷ z ∷ [])) p
    (sends_more j k m t u w b (32 ∷ c ++ 32 ∷ x ∷ 32 ∷ y ∷ z ∷ []) q
    (sends_more k l m u v w (32 ∷ c) (32 ∷ x ∷ 32 ∷ y ∷ z ∷ []) r e)))

-- a record with one field more behind it
pub asked_is : {A : Type 0} (entry : Record A) (asked : List Begun)
    → (line (record_fields entry) ++ 32 ∷ [])
    ++ (asked_field asked ++ 10 ∷ []) ≡ ended (asked_line entry asked)
unfolding asked_line
asked_is entry asked =
    let fields = line (record_fields entry) in
    let last = asked_field asked in
    append_assoc fields (32 ∷ []) (last ++ 10 ∷ [])
    ∙ sym (append_assoc fields (32 ∷ last) (10 ∷ []))
    ∙ ap (λ (l : List ℕ). l ++ 10 ∷ [])
    (sym (line_push (num entry.slot) (reply_field entry.reply ∷ bytes entry.output
    ∷ (digit entry.block_irq ∷ []) ∷ (digit entry.console_irq ∷ []) ∷ []) last))

-- one run more, of what stands at place i
pub others_more : (runs : List Segment) (i : ℕ) (d : Segment) → i < length runs
    → flat_map other_run (take i runs)
    ++ (44 ∷ run_field (get_or runs i d)) ≡ flat_map other_run (take (i + 1) runs)
others_more runs i d lt =
    let more = get_or runs i d in
    sym (ap (flat_map other_run) (take_more runs i d lt) ∙ flat_map-append other_run (take i runs) (more ∷ [])
    ∙ ap (λ (t : List ℕ). flat_map other_run (take i runs) ++ t) (append-nil (other_run more)))

-- runs by the first and the others
pub runs_are : (runs others : List Segment) (d : Segment) → 0 < length runs
    → others ≡ take (length runs - 1) (drop 1 runs) → run_field (get_or runs 0 d)
    ++ flat_map other_run others ≡ runs_field runs
runs_are [] others d some is = absurd (omega arith)
runs_are (run ∷ runs) others d some is =
    ap (λ (rs : List Segment). run_field run ++ flat_map other_run rs) (is
    ∙ take_all (length (run ∷ runs) - 1) runs (omega arith))
