pub mod SectorMap
