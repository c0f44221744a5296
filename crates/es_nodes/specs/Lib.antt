pub mod MaybeFields
