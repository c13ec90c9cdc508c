-- What the layout's writer and the rules of the faults have to do with each other.
use Rattle.std.proofs.Common.{◌≡◌, ℕ, ◌+◌, ◌-◌, ◌^◌, ◌<◌, ◌≤◌, cond, ltb, List, [], ◌∷◌, ◌++◌, length, get_or, take, drop, Some, None, Ok, Err, Result, Option, unwrap_or, sym, refl, ap, ◌∙◌, subst, append_assoc, append-nil, add-zero, arith, length-append}
use Rattle.std.specs.List.{flat_map, All}
use Rattle.std.proofs.lemmas.List.{flat_map_more, take_rest}
use Rattle.std.proofs.lemmas.List.Elements.{All-push}
use Rattle.std.proofs.lemmas.Bool.{le-ltb, cond-false}
use Rattle.schedule.specs.declared.call.CallFault.{CallFault}
use Rattle.schedule.specs.declared.call.CallFault.TheVariants.{Number}
use Rattle.schedule.specs.declared.file.Fault.{Fault}
use Rattle.schedule.specs.declared.call.Call.{Call}
use Rattle.schedule.specs.declared.call.Call.TheVariants.{Offer, Deliver, Run, Outlook, Commit}
use Rattle.schedule.specs.Layout.{two, four, bytes_of, Within, encode, Follows}
use Rattle.schedule.specs.Faults.{size, call_fault, placed, placed_result, calls_fault, header_fault, fault_of}

-- what is skipped is no fault
skips : (numbers : List ℕ) (offset : ℕ) (rest : List ℕ) → calls_fault offset (length numbers) (numbers ++ rest) ≡ calls_fault (offset + length numbers) 0 rest
skips [] offset rest = ap (λ n. calls_fault n 0 rest) (sym (add-zero offset))
skips (number ∷ numbers) offset rest =
    let same : offset + 1 + length numbers ≡ offset + length (number ∷ numbers) = omega arith in
    skips numbers (offset + 1) rest ∙ ap (λ n. calls_fault n 0 rest) same

-- a call whose numbers are all there
opens : (letter : ℕ) (numbers rest : List ℕ) (offset : ℕ) → call_fault letter (numbers ++ rest) ≡ None → unwrap_or (size letter) 0 ≡ length numbers → calls_fault offset 0 (letter ∷ numbers ++ rest) ≡ calls_fault (offset + length (letter ∷ numbers)) 0 rest
opens letter numbers rest offset none long =
    let same : offset + 1 + length numbers ≡ offset + length (letter ∷ numbers) = omega arith in
    ap (λ o. after o) none ∙ ap (λ n. calls_fault (offset + 1) n (numbers ++ rest)) long ∙ skips numbers (offset + 1) rest ∙ ap (λ n. calls_fault n 0 rest) same
  where
    after : Option CallFault → Option Fault
    after o = elim o [ None ↦ calls_fault (offset + 1) (unwrap_or (size letter) 0) (numbers ++ rest) | Some f ↦ Some (placed offset f) ]

enough : (n : ℕ) (bytes : List ℕ) → n ≤ length bytes → cond (ltb (length bytes) n) (Some (Number (record {}))) None ≡ None
enough n bytes h = ap (λ b. cond b (Some (Number (record {}))) None) (le-ltb (length bytes) n h)

-- a call as the layout has it is no fault
pub call_passes : (call : Call) (offset : ℕ) (rest : List ℕ) → calls_fault offset 0 (bytes_of call ++ rest) ≡ calls_fault (offset + length (bytes_of call)) 0 rest
call_passes (Offer time destination kind payload) offset rest = opens 111 (four time ++ destination ∷ kind ∷ four payload) rest offset (enough 10 (four time ++ destination ∷ kind ∷ four payload ++ rest) (omega arith)) refl
call_passes (Deliver index) offset rest = opens 100 (two index) rest offset (enough 2 (two index ++ rest) (omega arith)) refl
call_passes (Run board) offset rest = opens 114 (board ∷ []) rest offset (enough 1 (board ∷ rest) (omega arith)) refl
call_passes Outlook offset rest = opens 103 [] rest offset (enough 0 rest (omega arith)) refl
call_passes (Commit most) offset rest = opens 99 (two most) rest offset (enough 2 (two most ++ rest) (omega arith)) refl

pub all_passed : (calls : List Call) (offset : ℕ) (rest : List ℕ) → calls_fault offset 0 (flat_map bytes_of calls ++ rest) ≡ calls_fault (offset + length (flat_map bytes_of calls)) 0 rest
all_passed [] offset rest = ap (λ n. calls_fault n 0 rest) (sym (add-zero offset))
all_passed (call ∷ calls) offset rest =
    let long = length-append (bytes_of call) (flat_map bytes_of calls) in
    let same : offset + length (bytes_of call) + length (flat_map bytes_of calls) ≡ offset + length (flat_map bytes_of (call ∷ calls)) = omega arith in
    ap (λ l. calls_fault offset 0 l) (append_assoc (bytes_of call) (flat_map bytes_of calls) rest) ∙ call_passes call offset (flat_map bytes_of calls ++ rest) ∙ all_passed calls (offset + length (bytes_of call)) rest ∙ ap (λ n. calls_fault n 0 rest) same

-- the header as the layout has it is no fault
header_passes : (end : ℕ) (rest : List ℕ) → length (encode end [] ++ rest) ≤ 60000 → header_fault (encode end [] ++ rest) ≡ None
header_passes end rest small =
    cond-false (ltb 60000 (length (encode end [] ++ rest))) _ _ (le-ltb 60000 _ small) ∙ cond-false (ltb (length (encode end [] ++ rest)) 6) _ _ (le-ltb (length (encode end [] ++ rest)) 6 (omega arith))

pub body_fault : (end : ℕ) (rest : List ℕ) → length (encode end [] ++ rest) ≤ 60000 → fault_of (encode end [] ++ rest) ≡ calls_fault 6 0 rest
body_fault end rest small = ap after (header_passes end rest small)
  where
    after : Option Fault → Option Fault
    after o = elim o [ None ↦ calls_fault 6 0 rest | Some f ↦ Some f ]

-- a file that follows the layout has no fault
pub follows_passes : (bytes : List ℕ) (end : ℕ) (calls : List Call) → Follows bytes end calls → fault_of bytes ≡ None
follows_passes bytes end calls h =
    ap fault_of h.laid ∙ body_fault end (flat_map bytes_of calls) (subst (λ b. length b ≤ 60000) h.laid h.small)
    ∙ ap (calls_fault 6 0) (sym (append-nil (flat_map bytes_of calls))) ∙ all_passed calls 6 []

-- the calls are what the front of the file holds, and rest is what is left
pub record Sofar (bytes : List ℕ) (end : ℕ) (calls : List Call) (rest : List ℕ) : Type 0 where
  pub laid : bytes ≡ encode end calls ++ rest
  pub small : length bytes ≤ 60000
  pub end_within : end < 2 ^ 32
  pub within : All Within calls
  pub fault : fault_of bytes ≡ calls_fault (length bytes - length rest) 0 rest
  pub left : length rest ≤ length bytes

pub one_more : (bytes : List ℕ) (end : ℕ) (calls : List Call) (call : Call) (rest after : List ℕ) → Sofar bytes end calls rest → rest ≡ bytes_of call ++ after → Within call → Sofar bytes end (calls ++ call ∷ []) after
one_more bytes end calls call rest after h opened fits =
    let left = h.left in
    let long : length rest ≡ length (bytes_of call) + length after = ap length opened ∙ length-append (bytes_of call) after in
    let at : length bytes - length rest + length (bytes_of call) ≡ length bytes - length after = omega arith in
    record {
      laid = h.laid ∙ ap (λ l. encode end calls ++ l) opened ∙ sym (append_assoc (encode end calls) (bytes_of call) after) ∙ ap (λ l. l ++ after) (flat_map_more bytes_of (encode end []) calls call);
      small = h.small;
      end_within = h.end_within;
      within = All-push Within calls call h.within fits;
      fault = h.fault ∙ ap (calls_fault (length bytes - length rest) 0) opened ∙ call_passes call (length bytes - length rest) after ∙ ap (λ n. calls_fault n 0 after) at;
      left = omega arith;
    }

pub done : (bytes : List ℕ) (end : ℕ) (calls : List Call) (rest : List ℕ) → Sofar bytes end calls rest → length rest ≡ 0 → Follows bytes end calls
done bytes end calls [] h e = record { laid = h.laid ∙ append-nil _; small = h.small; end_within = h.end_within; within = h.within }
done bytes end calls (b ∷ rest) h e = absurd (omega arith)

-- a pattern that takes one byte
pub opens_1 : (s : List ℕ) → 1 ≤ length s → s ≡ get_or s 0 0 ∷ take (length s - 1) (drop 1 s)
opens_1 [] h = absurd (omega arith)
opens_1 (a ∷ s) h = ap (λ l. a ∷ l) (sym (take_rest (a ∷ s) 1))

-- what a place was added to, if it is no fault
pub unplaced : {T : Type 0} (at : ℕ) (x : T) (r : Result T CallFault) → Ok x ≡ placed_result at r → r ≡ Ok x
unplaced at x (Ok value) e = cc
unplaced at x (Err fault) e = cc
