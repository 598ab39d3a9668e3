-- Captures, one record further.
use Rattle.std.proofs.Common.{◌≡◌, ℕ, Bool, List, [], ◌∷◌, ◌++◌, map, Option, Some, None, ap, sym, ◌∙◌}
use Rattle.std.proofs.lemmas.List.{flat_map_more, map-append}
use Rattle.and_capture.specs.declared.capture.Taken.{Taken}
use Rattle.and_capture.specs.Spelling.{little, record_of, written, written_header}
use Rattle.and_events.specs.declared.event.Event.{Event}
use Rattle.and_events.specs.declared.plan.Plan.{Plan}
use Rattle.and_events.specs.OuterPackets.{Sent, sends_of, sent_by, with_sent}
use Rattle.and_outputs.specs.Delivered.{delivered, delivered_by, delivered_of, deliveries, frame_of, with_delivery}
use Rattle.and_outputs.specs.Underlay.{packet_of, underlay, underlay_of}

abbrev file : ℕ → Bool → List Taken → List ℕ
file link nanos frames = written link (record { nanos = nanos; frames = frames })

grown : {A : Type 0} (link : ℕ) (nanos : Bool) (f : A → Taken) (xs : List A) (x : A) (old new : List ℕ) → old ≡ file link nanos (map f xs)
    → new ≡ old ++ record_of little (f x) → new ≡ file link nanos (map f (xs ++ x ∷ []))
grown link nanos f xs x old new was put =
    put ∙ ap (λ l. l ++ record_of little (f x)) was ∙ flat_map_more (record_of little) (written_header nanos link) (map f xs) (f x)
    ∙ ap (λ l. file link nanos l) (sym (map-append f xs (x ∷ [])))

pub delivered_first : (plan : Plan) (out : List ℕ) → out ≡ file 1 plan.nanos [] → out ≡ delivered plan []
unfolding deliveries delivered_of
delivered_first plan out is = is

by_delivery : (plan : Plan) (packets : List ℕ) (found : Option ℕ) (i : ℕ) (old new : List ℕ) → found ≡ Some i → old ≡ delivered_of plan packets
    → new ≡ old ++ record_of little (frame_of plan i) → new ≡ delivered_of plan (with_delivery packets found)
unfolding delivered_of
by_delivery plan packets found i old new is was put =
    grown 1 plan.nanos (frame_of plan) packets i old new was put ∙ ap (λ o. file 1 plan.nanos (map (frame_of plan) (with_delivery packets o))) (sym is)

pub delivered_more : (plan : Plan) (h : List Event) (e : Event) (i : ℕ) (old new : List ℕ) → delivered_by e ≡ Some i → old ≡ delivered plan h
    → new ≡ old ++ record_of little (frame_of plan i) → new ≡ delivered plan (e ∷ h)
unfolding deliveries
delivered_more plan h e i old new is was put = by_delivery plan (deliveries h) (delivered_by e) i old new is was put

pub delivered_same : (plan : Plan) (h : List Event) (e : Event) (out : List ℕ) → delivered_by e ≡ None → out ≡ delivered plan h → out ≡ delivered plan (e ∷ h)
unfolding deliveries
delivered_same plan h e out is was = was ∙ ap (λ o. delivered_of plan (with_delivery (deliveries h) o)) (sym is)

pub underlay_first : (plan : Plan) (out : List ℕ) → out ≡ file 101 plan.nanos [] → out ≡ underlay plan []
unfolding underlay_of sends_of
underlay_first plan out is = is

pub underlay_next : (plan : Plan) (h : List Event) (e : Event) (found : Option Sent) (new : List ℕ) → found ≡ sent_by plan h e
    → new ≡ underlay_of plan (with_sent (sends_of plan h) found) → new ≡ underlay plan (e ∷ h)
unfolding sends_of
underlay_next plan h e found new is put = put ∙ ap (λ o. underlay_of plan (with_sent (sends_of plan h) o)) is

pub underlay_more : (plan : Plan) (sents : List Sent) (sent : Sent) (old new : List ℕ) → old ≡ underlay_of plan sents
    → new ≡ old ++ record_of little (packet_of plan sent) → new ≡ underlay_of plan (sents ++ sent ∷ [])
unfolding underlay_of
underlay_more plan sents sent old new was put = grown 101 plan.nanos (packet_of plan) sents sent old new was put
