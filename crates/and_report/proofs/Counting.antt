-- Counts with one fate or one event more.
use Rattle.std.proofs.Common.{◌≡◌, ◌+◌, Bool, true, false, List, [], ◌∷◌, length, cond, refl, ap, sym, ◌∙◌, add_comm, add-zero}
use Rattle.std.specs.List.{count_by}
use Rattle.std.proofs.lemmas.List.Sums.{sum_by-cons}
use Rattle.std.proofs.lemmas.List.{length_push}
use Rattle.and_events.specs.declared.event.Node.{Node}
use Rattle.and_events.specs.declared.event.End.TheVariants.{Queued, Full, Hops}
use Rattle.and_events.specs.declared.event.Departure.TheVariants.{NoVm, Spoofed, Denied, Allowed}
use Rattle.and_events.specs.declared.event.Passage.TheVariants as passages
use Rattle.and_events.specs.declared.event.Return.TheVariants as returns
use Rattle.and_events.specs.declared.event.Arrival.TheVariants as arrivals
use Rattle.and_events.specs.declared.event.Event.{Event}
use Rattle.and_events.specs.declared.event.Event.TheVariants.{Inject, Egress, Sealed, Route, Redirect, Ingress}
use Rattle.and_events.specs.declared.plan.Plan.{Plan}
use Rattle.and_events.specs.Flow.{Move, Stay, Enter, Lose, Grab, Send, SealLater, Stop}
use Rattle.and_events.specs.State.{State, state, move_of}
use Rattle.and_events.specs.OuterPackets.{Sent, sent_by_move, with_sent, sends_of}
use Rattle.and_report.specs.declared.fate.Fate.{Fate}
use Rattle.and_report.specs.Report as report
use Rattle.and_report.specs.Tally as tallies
use Rattle.and_report.specs.Counts.{one, with_fate, endings_of, is_send, with_event, traffic_of}

-- one element more in front
pub count_next : {A : Type 0} (p : A → Bool) (x : A) (xs : List A) → count_by p (x ∷ xs) ≡ count_by p xs + one (p x)
count_next p x xs = sum_by-cons (λ y. cond (p y) 1 0) x xs ∙ add_comm (one (p x)) (count_by p xs)

pub endings_next : (f : Fate) (fates : List Fate) → endings_of (f ∷ fates) ≡ with_fate (endings_of fates) f
endings_next f fates =
    let delivered : count_by report.is_delivered (f ∷ fates) ≡ count_by report.is_delivered fates + one (report.is_delivered f) = count_next report.is_delivered f fates in
    let dropped : count_by report.is_dropped (f ∷ fates) ≡ count_by report.is_dropped fates + one (report.is_dropped f) = count_next report.is_dropped f fates in
    let spoofed : count_by report.is_spoofed (f ∷ fates) ≡ count_by report.is_spoofed fates + one (report.is_spoofed f) = count_next report.is_spoofed f fates in
    let novm : count_by report.is_novm (f ∷ fates) ≡ count_by report.is_novm fates + one (report.is_novm f) = count_next report.is_novm f fates in
    let noowner : count_by report.is_noowner (f ∷ fates) ≡ count_by report.is_noowner fates + one (report.is_noowner f) = count_next report.is_noowner f fates in
    let in_blackout : count_by report.is_in_blackout (f ∷ fates) ≡ count_by report.is_in_blackout fates + one (report.is_in_blackout f) = count_next report.is_in_blackout f fates in
    let at_full_queue : count_by report.is_at_full_queue (f ∷ fates) ≡ count_by report.is_at_full_queue fates + one (report.is_at_full_queue f) = count_next report.is_at_full_queue f fates in
    let out_of_hops : count_by report.is_out_of_hops (f ∷ fates) ≡ count_by report.is_out_of_hops fates + one (report.is_out_of_hops f) = count_next report.is_out_of_hops f fates in
    cc

pub traffic_next : (e : Event) (h : List Event) → traffic_of (e ∷ h) ≡ with_event (traffic_of h) e
traffic_next e h =
    let sends : count_by is_send (e ∷ h) ≡ count_by is_send h + one (is_send e) = count_next is_send e h in
    let offload : count_by tallies.is_offload (e ∷ h) ≡ count_by tallies.is_offload h + one (tallies.is_offload e) = count_next tallies.is_offload e h in
    let hover : count_by tallies.is_hover (e ∷ h) ≡ count_by tallies.is_hover h + one (tallies.is_hover e) = count_next tallies.is_hover e h in
    let hairpin : count_by tallies.is_hairpin (e ∷ h) ≡ count_by tallies.is_hairpin h + one (tallies.is_hairpin e) = count_next tallies.is_hairpin e h in
    let redirect : count_by tallies.is_absent (e ∷ h) ≡ count_by tallies.is_absent h + one (tallies.is_absent e) = count_next tallies.is_absent e h in
    let fast : count_by tallies.is_fast (e ∷ h) ≡ count_by tallies.is_fast h + one (tallies.is_fast e) = count_next tallies.is_fast e h in
    let slow : count_by tallies.is_slow (e ∷ h) ≡ count_by tallies.is_slow h + one (tallies.is_slow e) = count_next tallies.is_slow e h in
    cc

-- ---- sends

moves_out : Move → Bool
moves_out (Send a q i net target) = true
moves_out _ = false

sent_one : (plan : Plan) (h : List Event) (here : Node) (m : Move) (sents : List Sent) → length (with_sent sents (sent_by_move plan h here m)) ≡ length sents + one (moves_out m)
unfolding moves_out
sent_one plan h here (Send a q i net target) sents = length_push sents _
sent_one plan h here Stay sents = sym (add-zero (length sents))
sent_one plan h here (Enter q i) sents = sym (add-zero (length sents))
sent_one plan h here (Lose i) sents = sym (add-zero (length sents))
sent_one plan h here (Grab a q held) sents = sym (add-zero (length sents))
sent_one plan h here (SealLater a q i net target) sents = sym (add-zero (length sents))
sent_one plan h here (Stop a i) sents = sym (add-zero (length sents))

-- the events whose moves are sends
out_is : (plan : Plan) (s : State) (e : Event) → moves_out (move_of plan s e) ≡ is_send e
unfolding moves_out move_of
out_is plan s (Inject n i true) = refl
out_is plan s (Inject n i false) = refl
out_is plan s (Egress a i at way NoVm) = refl
out_is plan s (Egress a i at way Spoofed) = refl
out_is plan s (Egress a i at way (Denied n)) = refl
out_is plan s (Egress a i at way (Allowed by true dest Queued)) = refl
out_is plan s (Egress a i at way (Allowed by true dest Full)) = refl
out_is plan s (Egress a i at way (Allowed by true dest Hops)) = refl
out_is plan s (Egress a i at way (Allowed by false dest Queued)) = refl
out_is plan s (Egress a i at way (Allowed by false dest Full)) = refl
out_is plan s (Egress a i at way (Allowed by false dest Hops)) = refl
out_is plan s (Sealed a i Queued) = refl
out_is plan s (Sealed a i Full) = refl
out_is plan s (Sealed a i Hops) = refl
out_is plan s (Route a i at (passages.Dropped by)) = refl
out_is plan s (Route a i at (passages.NoOwner by)) = refl
out_is plan s (Route a i at (passages.Send by net host Queued)) = refl
out_is plan s (Route a i at (passages.Send by net host Full)) = refl
out_is plan s (Route a i at (passages.Send by net host Hops)) = refl
out_is plan s (Route a i at (passages.Hops by)) = refl
out_is plan s (Redirect a i at returns.NoOwner) = refl
out_is plan s (Redirect a i at (returns.Send host Queued)) = refl
out_is plan s (Redirect a i at (returns.Send host Full)) = refl
out_is plan s (Redirect a i at (returns.Send host Hops)) = refl
out_is plan s (Redirect a i at returns.Hops) = refl
out_is plan s (Ingress a i at way arrivals.NoOwner) = refl
out_is plan s (Ingress a i at way (arrivals.Running vm by pass)) = refl
out_is plan s (Ingress a i at way (arrivals.Blackout vm)) = refl
out_is plan s (Ingress a i at way (arrivals.Hairpin vm host Queued)) = refl
out_is plan s (Ingress a i at way (arrivals.Hairpin vm host Full)) = refl
out_is plan s (Ingress a i at way (arrivals.Hairpin vm host Hops)) = refl
out_is plan s (Ingress a i at way (arrivals.Absent vm gateway Queued)) = refl
out_is plan s (Ingress a i at way (arrivals.Absent vm gateway Full)) = refl
out_is plan s (Ingress a i at way (arrivals.Absent vm gateway Hops)) = refl
out_is plan s _ = refl

-- as many sends as events that are sends
pub sends_are : (plan : Plan) (h : List Event) → count_by is_send h ≡ length (sends_of plan h)
unfolding sends_of
sends_are plan [] = refl
sends_are plan (e ∷ h) =
    count_next is_send e h ∙ ap (λ n. n + one (is_send e)) (sends_are plan h) ∙ ap (λ b. length (sends_of plan h) + one b) (sym (out_is plan (state plan h) e))
    ∙ sym (sent_one plan h _ (move_of plan (state plan h) e) (sends_of plan h))
