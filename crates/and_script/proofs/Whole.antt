-- The script of a scenario, whole.
use Rattle.std.proofs.Common.{◌≡◌, ℕ, suc, Bool, true, false, nat_lt, List, [], ◌∷◌, length, refl, ap, sym, ◌∙◌, Result, Ok, Err, codes, subst}
use Rattle.std.specs.Bool.{if◌then◌else◌}
use Rattle.serde_json.specs.Data.{Items}
use Rattle.serde_json.specs.declared.value.Value.{Value}
use Rattle.serde_json.specs.View.{items_view}
use Rattle.and_events.specs.declared.plan.Settings.{Settings}
use Rattle.and_events.specs.declared.plan.Scenario.{Scenario}
use Rattle.and_script.specs.declared.refusal.Refusal.{Refusal}
use Rattle.and_script.specs.declared.refusal.Refusal.TheVariants as refusals
use Rattle.and_script.specs.declared.tables.Cause.{Cause}
use Rattle.and_script.specs.declared.tables.Cause.TheVariants.{Limit}
use Rattle.and_script.specs.declared.fault.ScenarioFault.{ScenarioFault}
use Rattle.and_script.specs.declared.fault.ScenarioFault.TheVariants as faults
use Rattle.and_script.specs.Grammar as grammar
use Rattle.and_script.specs.Answers.{IsFaultOr, Tells, ItemFault, RefusesAt}

pub count-view : (xs : List Value) → grammar.item_count (items_view xs) ≡ length xs
count-view [] = refl
count-view (x ∷ xs) = ap suc (count-view xs)

-- a fault of this cause and place is what the definition says
pub told : {Y : Type 0} (fault : ScenarioFault) (cause : Cause) (place : grammar.Place) (said : Result Y grammar.Fault) →
    IsFaultOr fault cause place → said ≡ Err (grammar.Refused cause place) → Tells fault said
told faults.NotJson cause place said is e = (cause, place, is, e)
told (faults.Field path) cause place said is e = (cause, place, is, e)
told (faults.Unknown path) cause place said is e = (cause, place, is, e)
told (faults.Range path) cause place said is e = (cause, place, is, e)
told (faults.Limit path) cause place said is e = (cause, place, is, e)
told faults.NoMemory cause place said is e = tt

abbrev pub with_settings : Settings → Result (List grammar.Written) grammar.Fault → Result Scenario grammar.Fault
with_settings settings ws = grammar.◌>>=◌ ws (λ w. Ok (grammar.scenario_with settings w))

abbrev pub scripted_by : Settings → Items → Bool → Result Scenario grammar.Fault
scripted_by settings script long =
    if long then Err (grammar.Refused Limit (grammar.Top (grammar.Of (codes "script")))) else with_settings settings (grammar.items_of 0 script)

-- a script that is short enough is its items
pub scripted-short : (settings : Settings) (xs : List Value) → nat_lt 65536 (length xs) ≡ false →
    grammar.scripted settings (items_view xs) ≡ with_settings settings (grammar.items_of 0 (items_view xs))
scripted-short settings xs e = ap (λ n. scripted_by settings (items_view xs) (nat_lt 65536 n)) (count-view xs) ∙ ap (scripted_by settings (items_view xs)) e

pub scripted-long : (settings : Settings) (xs : List Value) → nat_lt 65536 (length xs) ≡ true →
    grammar.scripted settings (items_view xs) ≡ Err (grammar.Refused Limit (grammar.Top (grammar.Of (codes "script"))))
scripted-long settings xs e = ap (λ n. scripted_by settings (items_view xs) (nat_lt 65536 n)) (count-view xs) ∙ ap (scripted_by settings (items_view xs)) e

-- the fault of a refused item is that of the script
pub told_item : (settings : Settings) (fault : ScenarioFault) (n : ℕ) (refusal : Refusal) (items : Result (List grammar.Written) grammar.Fault) →
    ItemFault fault n refusal → RefusesAt n refusal items → Tells fault (with_settings settings items)
told_item settings fault n (refusals.At cause name) items is e = told fault cause (grammar.InItem n (grammar.Of name.now)) (with_settings settings items) is (ap (with_settings settings) e)
told_item settings fault n (refusals.Whole cause) items is e = told fault cause (grammar.InItem n grammar.Itself) (with_settings settings items) is (ap (with_settings settings) e)
told_item settings fault n refusals.NoMemory items is e =
    let P : ScenarioFault → Type 0 = λ f. Tells f (with_settings settings items) in subst P (sym is) tt
