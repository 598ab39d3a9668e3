-- The words of an event's line name the event.
use Rattle.std.proofs.Common.{◌≡◌, ℕ, Bool, true, false, if◌then◌else◌, List, [], ◌∷◌, ◌++◌, codes, bytes_eq, refl, ap, ◌∙◌}
use Rattle.and_policy.specs.declared.decision.Name.{Name}
use Rattle.and_policy.specs.declared.decision.Name.TheVariants as names
use Rattle.and_policy.specs.declared.decision.Dest.{Dest}
use Rattle.and_policy.specs.declared.decision.Dest.TheVariants.{Offload, Hover}
use Rattle.and_events.specs.declared.event.Departure.{Departure}
use Rattle.and_events.specs.declared.event.Departure.TheVariants.{NoVm, Spoofed, Denied, Allowed}
use Rattle.and_events.specs.declared.event.End.{End}
use Rattle.and_events.specs.declared.event.Passage.{Passage}
use Rattle.and_events.specs.declared.event.Passage.TheVariants as passages
use Rattle.and_events.specs.declared.event.Return.{Return}
use Rattle.and_events.specs.declared.event.Return.TheVariants as returns
use Rattle.and_events.specs.declared.event.Arrival.{Arrival}
use Rattle.and_events.specs.declared.event.Arrival.TheVariants as arrivals
use Rattle.and_events.specs.declared.event.Event.{Event}
use Rattle.and_events.specs.declared.event.Event.TheVariants as events
use Rattle.and_trace.specs.declared.word.Key.{Key}
use Rattle.and_trace.specs.declared.word.Key.TheVariants as keys
use Rattle.and_trace.specs.declared.word.Word.{Word}
use Rattle.and_trace.specs.declared.word.Word.TheVariants.{Text, Number, AtHost, AtGate}
use Rattle.and_trace.specs.Words.{spelling, key_text}
use Rattle.and_trace.specs.Spelling.{HasSpelling, node_word, actor_word, queue_word, end_word, way_word, full_word, mark_word, verdict_word, name_words, dest_words, departure_words, passage_words, return_words, arrival_words, kind_of, rest_of, said}
use Rattle.and_trace.specs.Grammar.{IsShort, AreShort, IsWritten}
use Rattle.and_trace.specs.Fields.{upto, past, number_in, event_by, event_in, name_in, past_name, name_of, past_name_of, passage_of, passage_in, passage_by, return_of, return_in, allowed_of, allowed_in, departure_of, departure_in, met_of, met_in, running_in, arrival_of, arrival_in}
use Rattle.and_trace.proofs.Lines.{text_clean}
use Rattle.and_trace.proofs.Fielded.{joined, front_is, rest_is, word_at, rest_at, number_at, host_at, gate_at, node_at, actor_is, queue_at, end_at, way_at, full_at, mark_at, verdict_at}

-- a word of the format
text_at : (k : Key) (ws : List Word) → upto 32 (joined (Text k ∷ ws)) ≡ key_text k
unfolding spelling
text_at k ws = word_at (Text k) ws tt

-- the number of an event, and of its words
number : (n : ℕ) (ws : List Word) → IsShort (Number n) → number_in (upto 32 (joined (Number n ∷ ws))) ≡ n
number n ws short = ap number_in (word_at (Number n) ws short) ∙ number_at n short

-- ---- parts of a line

short_both : (xs ys : List Word) → AreShort (xs ++ ys) → AreShort xs × AreShort ys
short_both [] ys short = (tt, short)
short_both (x ∷ xs) ys short = let b = short_both xs ys short.1 in ((short.0, b.0), b.1)

-- the name of a rule or a route, and what stands behind it
name_is : (kind : Key) (by : Name) (ws : List Word) → bytes_eq (key_text kind) (codes "implied") ≡ false → AreShort (name_words kind by)
    → (name_in (joined (name_words kind by ++ ws)) ≡ by) × (past_name (joined (name_words kind by ++ ws)) ≡ joined ws)
unfolding key_text
name_is kind names.Implied ws other short =
    let w0 = text_at keys.Implied ws in
    (ap (λ w. name_of w (joined (Text keys.Implied ∷ ws))) w0, ap (λ w. past_name_of w (joined (Text keys.Implied ∷ ws))) w0 ∙ rest_at (Text keys.Implied) ws tt)
name_is kind (names.Rule n) ws other short =
    let w0 = text_at kind (Number n ∷ ws) in
    let r0 = rest_at (Text kind) (Number n ∷ ws) tt in
    let chosen : bytes_eq (upto 32 (joined (Text kind ∷ Number n ∷ ws))) (codes "implied") ≡ false = ap (λ w. bytes_eq w (codes "implied")) w0 ∙ other in (
      ap (λ b. if b then names.Implied else names.Rule (number_in (upto 32 (past 32 (joined (Text kind ∷ Number n ∷ ws)))))) chosen
          ∙ (ap (λ r. names.Rule (number_in (upto 32 r))) r0 ∙ ap names.Rule (number n ws short.1.0)),
      ap (λ b. if b then past 32 (joined (Text kind ∷ Number n ∷ ws)) else past 32 (past 32 (joined (Text kind ∷ Number n ∷ ws)))) chosen
          ∙ (ap (λ r. past 32 r) r0 ∙ rest_at (Number n) ws short.1.0),
    )

allowed_is : (by : Name) (sealed : Bool) (dest : Dest) (end : End) → AreShort (mark_word sealed ∷ dest_words dest ++ end_word end ∷ [])
    → allowed_in by (joined (mark_word sealed ∷ dest_words dest ++ end_word end ∷ [])) ≡ Allowed by sealed dest end
unfolding key_text
allowed_is by sealed (Hover g) end short =
    let r0 = rest_at (mark_word sealed) (Text keys.Hover ∷ AtGate g ∷ end_word end ∷ []) short.0 in
    let m : bytes_eq (upto 32 (joined (mark_word sealed ∷ Text keys.Hover ∷ AtGate g ∷ end_word end ∷ []))) (codes "sealed") ≡ sealed
    = ap (λ w. bytes_eq w (codes "sealed")) (word_at (mark_word sealed) (Text keys.Hover ∷ AtGate g ∷ end_word end ∷ []) short.0) ∙ mark_at sealed in
    let kind = ap (λ r. upto 32 r) r0 ∙ text_at keys.Hover (AtGate g ∷ end_word end ∷ []) in
    let r1 = rest_at (Text keys.Hover) (AtGate g ∷ end_word end ∷ []) tt in
    let w2 = word_at (AtGate g) (end_word end ∷ []) short.1.1.0 in
    let r2 = rest_at (AtGate g) (end_word end ∷ []) short.1.1.0 in
    let w3 = word_at (end_word end) [] short.1.1.1.0 in
    let g2 = gate_at g short.1.1.0 in let e3 = end_at end in
    ap (λ w. allowed_of w by (joined (mark_word sealed ∷ Text keys.Hover ∷ AtGate g ∷ end_word end ∷ []))) kind ∙ (cc)
allowed_is by sealed (Offload host net) end short =
    let r0 = rest_at (mark_word sealed) (Text keys.Offload ∷ AtHost host ∷ Number net ∷ end_word end ∷ []) short.0 in
    let m : bytes_eq (upto 32 (joined (mark_word sealed ∷ Text keys.Offload ∷ AtHost host ∷ Number net ∷ end_word end ∷ []))) (codes "sealed") ≡ sealed
    = ap (λ w. bytes_eq w (codes "sealed")) (word_at (mark_word sealed) (Text keys.Offload ∷ AtHost host ∷ Number net ∷ end_word end ∷ []) short.0) ∙ mark_at sealed in
    let kind = ap (λ r. upto 32 r) r0 ∙ text_at keys.Offload (AtHost host ∷ Number net ∷ end_word end ∷ []) in
    let r1 = rest_at (Text keys.Offload) (AtHost host ∷ Number net ∷ end_word end ∷ []) tt in
    let w2 = word_at (AtHost host) (Number net ∷ end_word end ∷ []) short.1.1.0 in
    let r2 = rest_at (AtHost host) (Number net ∷ end_word end ∷ []) short.1.1.0 in
    let w3 = word_at (Number net) (end_word end ∷ []) short.1.1.1.0 in
    let r3 = rest_at (Number net) (end_word end ∷ []) short.1.1.1.0 in
    let w4 = word_at (end_word end) [] short.1.1.1.1.0 in
    let h2 = host_at host short.1.1.0 in let n3 = number_at net short.1.1.1.0 in let e4 = end_at end in
    ap (λ w. allowed_of w by (joined (mark_word sealed ∷ Text keys.Offload ∷ AtHost host ∷ Number net ∷ end_word end ∷ []))) kind ∙ (cc)

allowed_by : (by : Name) (sealed : Bool) (dest : Dest) (end : End) → AreShort (name_words keys.Rule by ++ (mark_word sealed ∷ dest_words dest ++ end_word end ∷ []))
    → departure_in (joined (Text keys.Allow ∷ (name_words keys.Rule by ++ (mark_word sealed ∷ dest_words dest ++ end_word end ∷ [])))) ≡ Allowed by sealed dest end
unfolding key_text
allowed_by by sealed dest end short =
    let tail = mark_word sealed ∷ dest_words dest ++ end_word end ∷ [] in
    let ws = name_words keys.Rule by ++ tail in
    let b = short_both (name_words keys.Rule by) tail short in
    let n = name_is keys.Rule by tail refl b.0 in
    ap (λ w. departure_of w (joined (Text keys.Allow ∷ ws))) (text_at keys.Allow ws)
    ∙ (ap (λ r. allowed_in (name_in r) (past_name r)) (rest_at (Text keys.Allow) ws tt)
    ∙ (ap (λ m. allowed_in m (past_name (joined ws))) n.0 ∙ (ap (λ r. allowed_in by r) n.1 ∙ allowed_is by sealed dest end b.1)))

departure_is : (d : Departure) → AreShort (departure_words d) → departure_in (joined (departure_words d)) ≡ d
unfolding key_text
departure_is NoVm short = ap (λ w. departure_of w (joined (Text keys.NoVm ∷ []))) (text_at keys.NoVm [])
departure_is Spoofed short = ap (λ w. departure_of w (joined (Text keys.Spoofed ∷ []))) (text_at keys.Spoofed [])
departure_is (Denied n) short =
    ap (λ w. departure_of w (joined (Text keys.Denied ∷ Number n ∷ []))) (text_at keys.Denied (Number n ∷ []))
    ∙ (ap (λ r. Denied (number_in (upto 32 r))) (rest_at (Text keys.Denied) (Number n ∷ []) tt) ∙ ap Denied (number n [] short.1.0))
departure_is (Allowed names.Implied sealed (Hover g) end) short = allowed_by names.Implied sealed (Hover g) end short.1
departure_is (Allowed names.Implied sealed (Offload host net) end) short = allowed_by names.Implied sealed (Offload host net) end short.1
departure_is (Allowed (names.Rule n) sealed (Hover g) end) short = allowed_by (names.Rule n) sealed (Hover g) end short.1
departure_is (Allowed (names.Rule n) sealed (Offload host net) end) short = allowed_by (names.Rule n) sealed (Offload host net) end short.1

passage_is : (p : Passage) → AreShort (passage_words p) → passage_in (joined (passage_words p)) ≡ p
unfolding key_text
passage_is (passages.Dropped by) short =
    let n = name_is keys.Route by (Text keys.Drop ∷ []) refl (short_both (name_words keys.Route by) (Text keys.Drop ∷ []) short).0 in
    ap (λ b. passage_by b (past_name (joined (name_words keys.Route by ++ Text keys.Drop ∷ [])))) n.0
    ∙ (ap (λ r. passage_by by r) n.1 ∙ ap (λ w. passage_of w by (joined (Text keys.Drop ∷ []))) (text_at keys.Drop []))
passage_is (passages.NoOwner by) short =
    let n = name_is keys.Route by (Text keys.NoOwner ∷ []) refl (short_both (name_words keys.Route by) (Text keys.NoOwner ∷ []) short).0 in
    ap (λ b. passage_by b (past_name (joined (name_words keys.Route by ++ Text keys.NoOwner ∷ [])))) n.0
    ∙ (ap (λ r. passage_by by r) n.1 ∙ ap (λ w. passage_of w by (joined (Text keys.NoOwner ∷ []))) (text_at keys.NoOwner []))
passage_is (passages.Hops by) short =
    let n = name_is keys.Route by (Text keys.Hops ∷ []) refl (short_both (name_words keys.Route by) (Text keys.Hops ∷ []) short).0 in
    ap (λ b. passage_by b (past_name (joined (name_words keys.Route by ++ Text keys.Hops ∷ [])))) n.0
    ∙ (ap (λ r. passage_by by r) n.1 ∙ ap (λ w. passage_of w by (joined (Text keys.Hops ∷ []))) (text_at keys.Hops []))
passage_is (passages.Send by net host end) short =
    let b = short_both (name_words keys.Route by) (Text keys.Send ∷ AtHost host ∷ Number net ∷ end_word end ∷ []) short in
    let n = name_is keys.Route by (Text keys.Send ∷ AtHost host ∷ Number net ∷ end_word end ∷ []) refl b.0 in
    let r0 = rest_at (Text keys.Send) (AtHost host ∷ Number net ∷ end_word end ∷ []) tt in
    let w1 = word_at (AtHost host) (Number net ∷ end_word end ∷ []) b.1.1.0 in
    let r1 = rest_at (AtHost host) (Number net ∷ end_word end ∷ []) b.1.1.0 in
    let w2 = word_at (Number net) (end_word end ∷ []) b.1.1.1.0 in
    let r2 = rest_at (Number net) (end_word end ∷ []) b.1.1.1.0 in
    let w3 = word_at (end_word end) [] b.1.1.1.1.0 in
    let h1 = host_at host b.1.1.0 in let n2 = number_at net b.1.1.1.0 in let e3 = end_at end in
    ap (λ b. passage_by b (past_name (joined (name_words keys.Route by ++ Text keys.Send ∷ AtHost host ∷ Number net ∷ end_word end ∷ [])))) n.0
    ∙ (ap (λ r. passage_by by r) n.1
    ∙ (ap (λ w. passage_of w by (joined (Text keys.Send ∷ AtHost host ∷ Number net ∷ end_word end ∷ []))) (text_at keys.Send (AtHost host ∷ Number net ∷ end_word end ∷ [])) ∙ (cc)))

return_is : (b : Return) → AreShort (return_words b) → return_in (joined (return_words b)) ≡ b
unfolding key_text
return_is returns.NoOwner short = ap (λ w. return_of w (joined (Text keys.NoOwner ∷ []))) (text_at keys.NoOwner [])
return_is returns.Hops short = ap (λ w. return_of w (joined (Text keys.Hops ∷ []))) (text_at keys.Hops [])
return_is (returns.Send host end) short =
    let r0 = rest_at (Text keys.Send) (AtHost host ∷ end_word end ∷ []) tt in
    let w1 = word_at (AtHost host) (end_word end ∷ []) short.1.0 in
    let r1 = rest_at (AtHost host) (end_word end ∷ []) short.1.0 in
    let w2 = word_at (end_word end) [] short.1.1.0 in
    let h1 = host_at host short.1.0 in let e2 = end_at end in
    ap (λ w. return_of w (joined (Text keys.Send ∷ AtHost host ∷ end_word end ∷ []))) (text_at keys.Send (AtHost host ∷ end_word end ∷ [])) ∙ (cc)

-- ---- arrivals at a VM, from the word behind its number on

running_is : (vm : ℕ) (by : Name) (pass : Bool) → AreShort (name_words keys.Rule by)
    → met_in vm (joined (Text keys.Running ∷ (name_words keys.Rule by ++ verdict_word pass ∷ []))) ≡ arrivals.Running vm by pass
unfolding key_text
running_is vm by pass short =
    let ws = name_words keys.Rule by ++ verdict_word pass ∷ [] in
    let n = name_is keys.Rule by (verdict_word pass ∷ []) refl short in
    let v : bytes_eq (upto 32 (joined (verdict_word pass ∷ []))) (codes "deliver") ≡ pass
    = ap (λ w. bytes_eq w (codes "deliver")) (word_at (verdict_word pass) [] (plain pass)) ∙ verdict_at pass in
    ap (λ w. met_of w vm (joined (Text keys.Running ∷ ws))) (text_at keys.Running ws)
    ∙ (ap (λ r. running_in vm r) (rest_at (Text keys.Running) ws tt)
    ∙ (ap (λ b. arrivals.Running vm b (bytes_eq (upto 32 (past_name (joined ws))) (codes "deliver"))) n.0
    ∙ (ap (λ r. arrivals.Running vm by (bytes_eq (upto 32 r) (codes "deliver"))) n.1 ∙ ap (λ b. arrivals.Running vm by b) v)))
  where
    plain : (b : Bool) → IsShort (verdict_word b)
    plain true = tt
    plain false = tt

blackout_is : (vm : ℕ) → met_in vm (joined (Text keys.Blackout ∷ [])) ≡ arrivals.Blackout vm
unfolding key_text
blackout_is vm = ap (λ w. met_of w vm (joined (Text keys.Blackout ∷ []))) (text_at keys.Blackout [])

hairpin_is : (vm host : ℕ) (end : End) → AreShort (AtHost host ∷ end_word end ∷ [])
    → met_in vm (joined (Text keys.Hairpin ∷ AtHost host ∷ end_word end ∷ [])) ≡ arrivals.Hairpin vm host end
unfolding key_text
hairpin_is vm host end short =
    let r0 = rest_at (Text keys.Hairpin) (AtHost host ∷ end_word end ∷ []) tt in
    let w1 = word_at (AtHost host) (end_word end ∷ []) short.0 in
    let r1 = rest_at (AtHost host) (end_word end ∷ []) short.0 in
    let w2 = word_at (end_word end) [] short.1.0 in
    let h1 = host_at host short.0 in let e2 = end_at end in
    ap (λ w. met_of w vm (joined (Text keys.Hairpin ∷ AtHost host ∷ end_word end ∷ []))) (text_at keys.Hairpin (AtHost host ∷ end_word end ∷ [])) ∙ (cc)

absent_is : (vm gate : ℕ) (end : End) → AreShort (AtGate gate ∷ end_word end ∷ [])
    → met_in vm (joined (Text keys.Absent ∷ AtGate gate ∷ end_word end ∷ [])) ≡ arrivals.Absent vm gate end
unfolding key_text
absent_is vm gate end short =
    let r0 = rest_at (Text keys.Absent) (AtGate gate ∷ end_word end ∷ []) tt in
    let w1 = word_at (AtGate gate) (end_word end ∷ []) short.0 in
    let r1 = rest_at (AtGate gate) (end_word end ∷ []) short.0 in
    let w2 = word_at (end_word end) [] short.1.0 in
    let h1 = gate_at gate short.0 in let e2 = end_at end in
    ap (λ w. met_of w vm (joined (Text keys.Absent ∷ AtGate gate ∷ end_word end ∷ []))) (text_at keys.Absent (AtGate gate ∷ end_word end ∷ [])) ∙ (cc)

-- behind the word for a VM stand its number and what it met
at_vm : (vm : ℕ) (ws : List Word) → IsShort (Number vm) → arrival_in (joined (Text keys.Vm ∷ Number vm ∷ ws)) ≡ met_in vm (joined ws)
unfolding key_text
at_vm vm ws short =
    ap (λ w. arrival_of w (joined (Text keys.Vm ∷ Number vm ∷ ws))) (text_at keys.Vm (Number vm ∷ ws))
    ∙ (ap (λ r. met_in (number_in (upto 32 r)) (past 32 r)) (rest_at (Text keys.Vm) (Number vm ∷ ws) tt)
    ∙ (ap (λ n. met_in n (past 32 (joined (Number vm ∷ ws)))) (number vm ws short) ∙ ap (λ r. met_in vm r) (rest_at (Number vm) ws short)))

arrival_is : (r : Arrival) → AreShort (arrival_words r) → arrival_in (joined (arrival_words r)) ≡ r
unfolding key_text
arrival_is arrivals.NoOwner short = ap (λ w. arrival_of w (joined (Text keys.NoOwner ∷ []))) (text_at keys.NoOwner [])
arrival_is (arrivals.Running vm by pass) short =
    at_vm vm (Text keys.Running ∷ (name_words keys.Rule by ++ verdict_word pass ∷ [])) short.1.0
    ∙ running_is vm by pass (short_both (name_words keys.Rule by) (verdict_word pass ∷ []) short.1.1.1).0
arrival_is (arrivals.Blackout vm) short = at_vm vm (Text keys.Blackout ∷ []) short.1.0 ∙ blackout_is vm
arrival_is (arrivals.Hairpin vm host end) short = at_vm vm (Text keys.Hairpin ∷ AtHost host ∷ end_word end ∷ []) short.1.0 ∙ hairpin_is vm host end short.1.1.1
arrival_is (arrivals.Absent vm gate end) short = at_vm vm (Text keys.Absent ∷ AtGate gate ∷ end_word end ∷ []) short.1.0 ∙ absent_is vm gate end short.1.1.1

-- ---- lines

by_kind : (e : Event) → HasSpelling e → AreShort (rest_of e) → event_by (key_text (kind_of e)) (joined (rest_of e)) ≡ e
unfolding key_text
by_kind (events.Append s) has short = ap (λ n. events.Append n) (number s [] short.0)
by_kind (events.Review s) has short = ap (λ n. events.Review n) (number s [] short.0)
by_kind (events.Hold s) has short = ap (λ n. events.Hold n) (number s [] short.0)
by_kind (events.Free s) has short = ap (λ n. events.Free n) (number s [] short.0)
by_kind (events.Wait s) has short = ap (λ n. events.Wait n) (number s [] short.0)
by_kind (events.Blackout s) has short = ap (λ n. events.Blackout n) (number s [] short.0)
by_kind (events.Resume s) has short = ap (λ n. events.Resume n) (number s [] short.0)
by_kind (events.Finish s) has short = ap (λ n. events.Finish n) (number s [] short.0)
by_kind (events.Inject s i full) has short =
    let w0 = word_at (Number s) (Number i ∷ full_word full ∷ []) short.0 in
    let r0 = rest_at (Number s) (Number i ∷ full_word full ∷ []) short.0 in
    let w1 = word_at (Number i) (full_word full ∷ []) short.1.0 in
    let r1 = rest_at (Number i) (full_word full ∷ []) short.1.0 in
    let f : bytes_eq (upto 32 (joined (full_word full ∷ []))) (codes "full") ≡ full
    = ap (λ w. bytes_eq w (codes "full")) (word_at (full_word full) [] short.1.1.0) ∙ full_at full in
    let n0 = number_at s short.0 in let n1 = number_at i short.1.0 in cc
by_kind (events.Announce n upto) has short =
    let w0 = word_at (node_word n) (Number upto ∷ []) short.0 in
    let r0 = rest_at (node_word n) (Number upto ∷ []) short.0 in
    let w1 = word_at (Number upto) [] short.1.0 in
    let n0 = node_at n short.0 in let n1 = number_at upto short.1.0 in cc
by_kind (events.Installed n upto) has short =
    let w0 = word_at (node_word n) (Number upto ∷ []) short.0 in
    let r0 = rest_at (node_word n) (Number upto ∷ []) short.0 in
    let w1 = word_at (Number upto) [] short.1.0 in
    let n0 = node_at n short.0 in let n1 = number_at upto short.1.0 in cc
by_kind (events.Unpin host vm) has short =
    let w0 = word_at (AtHost host) (Number vm ∷ []) short.0 in
    let r0 = rest_at (AtHost host) (Number vm ∷ []) short.0 in
    let w1 = word_at (Number vm) [] short.1.0 in
    let n0 = host_at host short.0 in let n1 = number_at vm short.1.0 in cc
by_kind (events.Take a q i) has short =
    let w0 = word_at (actor_word a) (queue_word q ∷ Number i ∷ []) short.0 in
    let r0 = rest_at (actor_word a) (queue_word q ∷ Number i ∷ []) short.0 in
    let w1 = word_at (queue_word q) (Number i ∷ []) short.1.0 in
    let r1 = rest_at (queue_word q) (Number i ∷ []) short.1.0 in
    let w2 = word_at (Number i) [] short.1.1.0 in
    let a0 = actor_is a has short.0 in let a1 = queue_at q in let a2 = number_at i short.1.1.0 in cc
by_kind (events.Sealed a i end) has short =
    let w0 = word_at (actor_word a) (Number i ∷ end_word end ∷ []) short.0 in
    let r0 = rest_at (actor_word a) (Number i ∷ end_word end ∷ []) short.0 in
    let w1 = word_at (Number i) (end_word end ∷ []) short.1.0 in
    let r1 = rest_at (Number i) (end_word end ∷ []) short.1.0 in
    let w2 = word_at (end_word end) [] short.1.1.0 in
    let a0 = actor_is a has short.0 in let a1 = number_at i short.1.0 in let a2 = end_at end in cc
by_kind (events.Egress a i at way d) has short =
    let ws = way_word way ∷ departure_words d in
    let w0 = word_at (actor_word a) (Number i ∷ Number at ∷ ws) short.0 in
    let r0 = rest_at (actor_word a) (Number i ∷ Number at ∷ ws) short.0 in
    let w1 = word_at (Number i) (Number at ∷ ws) short.1.0 in
    let r1 = rest_at (Number i) (Number at ∷ ws) short.1.0 in
    let w2 = word_at (Number at) ws short.1.1.0 in
    let r2 = rest_at (Number at) ws short.1.1.0 in
    let w3 = word_at (way_word way) (departure_words d) short.1.1.1.0 in
    let r3 = rest_at (way_word way) (departure_words d) short.1.1.1.0 in
    let a0 = actor_is a has short.0 in let a1 = number_at i short.1.0 in let a2 = number_at at short.1.1.0 in let a3 = way_at way in
    let rest : past 32 (past 32 (past 32 (past 32 (joined (rest_of (events.Egress a i at way d)))))) ≡ joined (departure_words d) = cc in
    let d3 : departure_in (past 32 (past 32 (past 32 (past 32 (joined (rest_of (events.Egress a i at way d))))))) ≡ d
    = ap (λ r. departure_in r) rest ∙ departure_is d short.1.1.1.1 in cc
by_kind (events.Ingress a i at way r) has short =
    let ws = way_word way ∷ arrival_words r in
    let w0 = word_at (actor_word a) (Number i ∷ Number at ∷ ws) short.0 in
    let r0 = rest_at (actor_word a) (Number i ∷ Number at ∷ ws) short.0 in
    let w1 = word_at (Number i) (Number at ∷ ws) short.1.0 in
    let r1 = rest_at (Number i) (Number at ∷ ws) short.1.0 in
    let w2 = word_at (Number at) ws short.1.1.0 in
    let r2 = rest_at (Number at) ws short.1.1.0 in
    let w3 = word_at (way_word way) (arrival_words r) short.1.1.1.0 in
    let r3 = rest_at (way_word way) (arrival_words r) short.1.1.1.0 in
    let a0 = actor_is a has short.0 in let a1 = number_at i short.1.0 in let a2 = number_at at short.1.1.0 in let a3 = way_at way in
    let rest : past 32 (past 32 (past 32 (past 32 (joined (rest_of (events.Ingress a i at way r)))))) ≡ joined (arrival_words r) = cc in
    let d3 : arrival_in (past 32 (past 32 (past 32 (past 32 (joined (rest_of (events.Ingress a i at way r))))))) ≡ r
    = ap (λ r. arrival_in r) rest ∙ arrival_is r short.1.1.1.1 in cc
by_kind (events.Route a i at p) has short =
    let ws = passage_words p in
    let w0 = word_at (actor_word a) (Number i ∷ Number at ∷ ws) short.0 in
    let r0 = rest_at (actor_word a) (Number i ∷ Number at ∷ ws) short.0 in
    let w1 = word_at (Number i) (Number at ∷ ws) short.1.0 in
    let r1 = rest_at (Number i) (Number at ∷ ws) short.1.0 in
    let w2 = word_at (Number at) ws short.1.1.0 in
    let r2 = rest_at (Number at) ws short.1.1.0 in
    let a0 = actor_is a has short.0 in let a1 = number_at i short.1.0 in let a2 = number_at at short.1.1.0 in
    let rest : past 32 (past 32 (past 32 (joined (rest_of (events.Route a i at p))))) ≡ joined (passage_words p) = cc in
    let d2 : passage_in (past 32 (past 32 (past 32 (joined (rest_of (events.Route a i at p)))))) ≡ p
    = ap (λ r. passage_in r) rest ∙ passage_is p short.1.1.1 in cc
by_kind (events.Redirect a i at back) has short =
    let ws = return_words back in
    let w0 = word_at (actor_word a) (Number i ∷ Number at ∷ ws) short.0 in
    let r0 = rest_at (actor_word a) (Number i ∷ Number at ∷ ws) short.0 in
    let w1 = word_at (Number i) (Number at ∷ ws) short.1.0 in
    let r1 = rest_at (Number i) (Number at ∷ ws) short.1.0 in
    let w2 = word_at (Number at) ws short.1.1.0 in
    let r2 = rest_at (Number at) ws short.1.1.0 in
    let a0 = actor_is a has short.0 in let a1 = number_at i short.1.0 in let a2 = number_at at short.1.1.0 in
    let rest : past 32 (past 32 (past 32 (joined (rest_of (events.Redirect a i at back))))) ≡ joined (return_words back) = cc in
    let d2 : return_in (past 32 (past 32 (past 32 (joined (rest_of (events.Redirect a i at back)))))) ≡ back
    = ap (λ r. return_in r) rest ∙ return_is back short.1.1.1 in cc

pub names_event : (e : Event) → IsWritten e → event_in (said e) ≡ e
names_event e is =
    let kind : upto 32 (said e) ≡ key_text (kind_of e) = front_is (key_text (kind_of e)) (rest_of e) (text_clean (kind_of e)) in
    let rest : past 32 (said e) ≡ joined (rest_of e) = rest_is (key_text (kind_of e)) (rest_of e) (text_clean (kind_of e)) in
    ap (λ k. event_by k (past 32 (said e))) kind ∙ (ap (λ r. event_by (key_text (kind_of e)) r) rest ∙ by_kind e is.spelled is.short)
