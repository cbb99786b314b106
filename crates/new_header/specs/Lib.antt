pub mod NewHeader
