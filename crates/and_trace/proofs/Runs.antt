-- Each event of a run has a spelling: who acts on a packet takes packets.
use Rattle.std.proofs.Common.{List, [], ◌∷◌}
use Rattle.and_events.specs.declared.event.Actor.{Actor}
use Rattle.and_events.specs.declared.event.Actor.TheVariants.{HostInstall, GateInstall, Worker, Coproc, Gateway, Controller, Driver}
use Rattle.and_events.specs.declared.event.Queue.{Queue}
use Rattle.and_events.specs.declared.event.Event.{Event}
use Rattle.and_events.specs.declared.event.Event.TheVariants as events
use Rattle.and_events.specs.declared.plan.Plan.{Plan}
use Rattle.and_events.specs.Places.{IsWorker, IsCoprocessor, IsGatewayWorker}
use Rattle.and_events.specs.State.{State, state}
use Rattle.and_events.specs.Legal.{Legal, TakesFrom}
use Rattle.and_events.specs.Run.{Run}
use Rattle.and_trace.specs.Spelling.{TakesPackets, HasSpelling, HaveSpellings}

taking : (plan : Plan) (s : State) (a : Actor) (q : Queue) → TakesFrom plan s a q → TakesPackets a
taking plan s (HostInstall h) q from = absurd from
taking plan s (GateInstall g) q from = absurd from
taking plan s (Worker h w) q from = tt
taking plan s (Coproc h) q from = tt
taking plan s (Gateway g) q from = tt
taking plan s Controller q from = absurd from
taking plan s Driver q from = absurd from

working : (a : Actor) → IsWorker a → TakesPackets a
working (Worker h w) is = tt
working (HostInstall h) is = absurd is
working (GateInstall g) is = absurd is
working (Coproc h) is = absurd is
working (Gateway g) is = absurd is
working Controller is = absurd is
working Driver is = absurd is

sealing : (a : Actor) → IsCoprocessor a → TakesPackets a
sealing (Coproc h) is = tt
sealing (HostInstall h) is = absurd is
sealing (GateInstall g) is = absurd is
sealing (Worker h w) is = absurd is
sealing (Gateway g) is = absurd is
sealing Controller is = absurd is
sealing Driver is = absurd is

passing : (a : Actor) → IsGatewayWorker a → TakesPackets a
passing (Gateway g) is = tt
passing (HostInstall h) is = absurd is
passing (GateInstall g) is = absurd is
passing (Worker h w) is = absurd is
passing (Coproc h) is = absurd is
passing Controller is = absurd is
passing Driver is = absurd is

legal_has_spelling : (plan : Plan) (s : State) (e : Event) → Legal plan s e → HasSpelling e
unfolding Legal
legal_has_spelling plan s (events.Take a q i) legal = taking plan s a q legal.queue
legal_has_spelling plan s (events.Egress a i at way d) legal = working a legal.1
legal_has_spelling plan s (events.Sealed a i end) legal = sealing a legal.1
legal_has_spelling plan s (events.Route a i at p) legal = passing a legal.1
legal_has_spelling plan s (events.Redirect a i at back) legal = passing a legal.1
legal_has_spelling plan s (events.Ingress a i at way arrival) legal = working a legal.1
legal_has_spelling plan s (events.Append n) legal = tt
legal_has_spelling plan s (events.Review n) legal = tt
legal_has_spelling plan s (events.Hold n) legal = tt
legal_has_spelling plan s (events.Free n) legal = tt
legal_has_spelling plan s (events.Wait n) legal = tt
legal_has_spelling plan s (events.Inject n i full) legal = tt
legal_has_spelling plan s (events.Blackout n) legal = tt
legal_has_spelling plan s (events.Resume n) legal = tt
legal_has_spelling plan s (events.Finish n) legal = tt
legal_has_spelling plan s (events.Announce node upto) legal = tt
legal_has_spelling plan s (events.Installed node upto) legal = tt
legal_has_spelling plan s (events.Unpin host vm) legal = tt

pub runs_have_spellings : (plan : Plan) (h : List Event) → Run plan h → HaveSpellings h
unfolding Run HaveSpellings
runs_have_spellings plan [] run = tt
runs_have_spellings plan (e ∷ h) run = (runs_have_spellings plan h run.0, legal_has_spelling plan (state plan h) e run.1)
