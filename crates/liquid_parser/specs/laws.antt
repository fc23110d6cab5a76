pub mod NoPluginLaws
