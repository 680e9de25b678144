use Rattle.time_layout.specs.declared.go_layouts.NameSketch.{NameSketch}
use Rattle.time_layout.specs.GoLayouts.{NameDraft}

abbrev pub name_draft_of : NameSketch → NameDraft
name_draft_of sketch = record { parts = sketch.parts.items; given = sketch.given; inside = sketch.inside }
