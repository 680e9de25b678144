use Rattle.std.proofs.Common.{refl, sym, ◌∙◌}
use Rattle.entry_model.proofs.Places.{stands_within, stands_value, stands_set, still_ascend, fits_missing, fits_unset}
use Rattle.entry_model.proofs.fields.TextMap.get_mut.Goals as goal

pub value_mut-requires : goal.value_mut-requires
value_mut-requires g c = stands_within c.args.name.now c.args.self.now.entries c.in-Ok.at c.in-Ok.ensures.found

pub returns-in-Ok : goal.returns-in-Ok
returns-in-Ok g c =
    let es = c.args.self.now.entries in
    let found = c.in-Ok.ensures.found in (
      (refl, (λ w. (stands_set c.args.name.now es c.in-Ok.at w found, still_ascend es c.in-Ok.at w c.place.ensures.ordered)), refl),
      record {
        writes_back = tt;
        value = sym (stands_value c.args.name.now es c.in-Ok.at found ∙ c.value_mut.ensures.value);
        ordered = c.place.ensures.ordered;
      },
    )

pub returns-in-Err : goal.returns-in-Err
returns-in-Err g c =
    let es = c.args.self.now.entries in
    let ordered = c.place.ensures.ordered in
    let missing = c.in-Err.ensures.missing in (
      (refl, (λ w. (sym (fits_unset c.args.name.now es c.in-Err.field-0 w ordered missing), ordered)), refl),
      record {
        writes_back = tt;
        value = sym (fits_missing c.args.name.now es c.in-Err.field-0 ordered missing);
        ordered = ordered;
      },
    )
